-- Bodies of functions whose copies hold nothing that is to be inlined in its turn.
use Rattle.std.specs.Prelude.{◌≡◌, false, List, [], ◌∷◌, ◌++◌, Bool, Option, Some, None, length}
use Rattle.plir_core.specs.declared.ptr.Ptr.{Ptr}
use Rattle.plir_core.specs.declared.ptr.Operation.{Operation as OperationKind}
use Rattle.plir_core.specs.declared.ptr.BasicBlock.{BasicBlock as BlockKind}
use Rattle.plir_core.specs.declared.ptr.IRNode.{IRNode}
use Rattle.plir_core.specs.declared.ptr.IRNode.TheVariants.{Operation, BasicBlock}
use Rattle.plir_core.specs.Contents.{OpView}
use Rattle.plir_core.specs.ContextView.{ContextView, IsAncestor, children, kind_of, operands_of}
use Rattle.plir_builtin.specs.Symbols.{is_symbol_kind}
use Rattle.plir_flow.specs.Branches.{Range as Places}
use Rattle.plir_flow_sets.specs.Calls.{CallView}
use Rattle.plir_flow_sets.specs.Told.{told_of}
use Rattle.plir_inliner.specs.Meaning.{calls_by_name}

module _ {K A T : Type 0} (own_symbol : K → Bool) (calls : OpView K A → Option CallView)
    (returned : OpView K A → Option Places) (s : ContextView K A T) where
  -- the operation calls no function by its name, and is no symbol
  pub record IsQuiet (p : Ptr OperationKind) : Type 0 where
    pub no_call : calls_by_name calls s p ≡ false
    pub no_symbol : is_symbol_kind own_symbol (kind_of s p) ≡ false

  -- it ends the call of the function that it stands in, and hands all of its operands back
  abbrev pub ReturnsAll : Ptr OperationKind → Type 0
  ReturnsAll p = told_of returned s p ≡ Some (0, length (operands_of s p))

  -- it is quiet, and returns only if it is the last one
  pub record MayStand (last p : Ptr OperationKind) : Type 0 where
    pub quiet : IsQuiet p
    pub returns : (p ≡ last → ⊥) → told_of returned s p ≡ None

  -- The block ends with an operation that hands all of its operands back, which is the only return below it; and no
  -- operation below it calls a function by its name, or is a symbol.
  pub record IsPlain (b : Ptr BlockKind) : Type 0 where
    pub front : List IRNode
    pub last : Ptr OperationKind
    pub ends : children s (BasicBlock b) ≡ front ++ Operation last ∷ []
    pub returns_all : ReturnsAll last
    pub stand : (p : Ptr OperationKind) → IsAncestor s (BasicBlock b) (Operation p) → MayStand last p
