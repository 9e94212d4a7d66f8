-- Which operations stand in what stands below a node, and end a block.
use Rattle.std.specs.Prelude.{◌≡◌, Bool, true}
use Rattle.plir_store.specs.Members.{Has}
use Rattle.plir_core.specs.declared.ptr.Ptr.{Ptr}
use Rattle.plir_core.specs.declared.ptr.Operation.{Operation as OperationKind}
use Rattle.plir_core.specs.declared.ptr.IRNode.{IRNode}
use Rattle.plir_core.specs.declared.ptr.IRNode.TheVariants.{Operation}
use Rattle.plir_core.specs.ContextView.{ContextView, children, kind_of}
use Rattle.plir_passes.specs.Legal.{is_kind}
use Rattle.plir_passes.specs.Reached.{ends_block}

module _ {K A T : Type 0} where
  -- a node is the operation q, of a kind that ends a block
  abbrev pub IsEnd : (K → Bool) → ContextView K A T → IRNode → Ptr OperationKind → Type 0
  IsEnd ends s n q = (n ≡ Operation q) × (is_kind (ends_block ends) (kind_of s q) ≡ true)

  -- P holds of a child of a node, and of q
  abbrev pub Through : ContextView K A T → (IRNode → Ptr OperationKind → Type 0) → IRNode → Ptr OperationKind → Type 0
  Through s P n q = (x : IRNode) × Has (children s n) x × P x q
