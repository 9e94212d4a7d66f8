-- Which calls can be inlined.
use Rattle.std.specs.Prelude.{◌≡◌, false, Bool, Option}
use Rattle.plir_core.specs.declared.ptr.Ptr.{Ptr}
use Rattle.plir_core.specs.declared.ptr.Operation.{Operation as OperationKind}
use Rattle.plir_core.specs.declared.ptr.BasicBlock.{BasicBlock as BlockKind}
use Rattle.plir_core.specs.Contents.{OpView}
use Rattle.plir_core.specs.ContextView.{ContextView, kind_of}
use Rattle.plir_builtin.specs.Symbols.{is_symbol_kind}
use Rattle.plir_flow.specs.Branches.{Range as Places}
use Rattle.plir_flow_sets.specs.Calls.{CallView}
use Rattle.plir_inline.specs.Inlined.{CanInline}
use Rattle.plir_inliner.specs.Meaning.{IsBodyMeant}
use Rattle.plir_inliner.specs.Plain.{IsPlain}

module _ {K A T : Type 0} (own_symbol own_table : K → Bool) (calls : OpView K A → Option CallView)
    (returned : OpView K A → Option Places) (s : ContextView K A T) where
  -- The call means a function whose body the block is; the body is plain, and a copy of it can come in place of the
  -- call, which is no symbol.
  pub record CanInlineCall (call : Ptr OperationKind) (b : Ptr BlockKind) : Type 0 where
    pub meant : IsBodyMeant own_symbol own_table calls s call b
    pub no_symbol : is_symbol_kind own_symbol (kind_of s call) ≡ false
    pub plain : IsPlain own_symbol calls returned s b
    pub fits : CanInline s call b
