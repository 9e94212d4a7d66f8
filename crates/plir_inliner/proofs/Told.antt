-- What is told of an operation, and of a body, as it is read.
use Rattle.std.proofs.Common.{◌≡◌, Option, Some, None, sym, ap, ◌∙◌}
use Rattle.std.specs.Prelude.{IfSome, option_map}
use Rattle.std.proofs.lemmas.Option.{none-some}
use Rattle.plir_data.specs.declared.op_set.OpKind.TheVariants.{Func}
use Rattle.plir_core.specs.declared.ptr.Ptr.{Ptr}
use Rattle.plir_core.specs.declared.ptr.Operation.{Operation as OperationKind}
use Rattle.plir_core.specs.declared.ptr.BasicBlock.{BasicBlock as BlockKind}
use Rattle.plir_core.specs.declared.ptr.IRNode.TheVariants.{BasicBlock}
use Rattle.plir_core.specs.ContextView.{ContextView, kind_of}
use Rattle.plir_builtin.specs.Symbols.{body}
use Rattle.plir_inliner.specs.Meaning.{IsBodyOf}

module _ {K A T : Type 0} (s : ContextView K A T) (f : Ptr OperationKind) (o : Option (Ptr BlockKind))
    (found : option_map BasicBlock o ≡ body s f) where
  -- the one block of a function is its body
  pub body-found : kind_of s f ≡ Some Func → IfSome o (IsBodyOf s f)
  body-found kind = at o found
    where
      at : (o : Option (Ptr BlockKind)) → option_map BasicBlock o ≡ body s f → IfSome o (IsBodyOf s f)
      at None e = tt
      at (Some b) e = record { function = kind; body = sym e }

  -- without one it has none
  pub no-body : o ≡ None → (b : Ptr BlockKind) → IsBodyOf s f b → ⊥
  no-body none b h = none-some (BasicBlock b) (sym (ap (option_map BasicBlock) none) ∙ found ∙ h.body)
