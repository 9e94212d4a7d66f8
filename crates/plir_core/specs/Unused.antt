-- Whether anything outside a tree uses what is in it, and what an erased tree leaves of a context.
use Rattle.std.specs.Prelude.{◌≡◌, ℕ, All, slice_index_or}
use Rattle.plir_core.specs.declared.ptr.Ptr.{Ptr}
use Rattle.plir_core.specs.declared.ptr.Operation.{Operation as OperationKind}
use Rattle.plir_core.specs.declared.ptr.IRNode.{IRNode}
use Rattle.plir_core.specs.declared.ptr.IRNode.TheVariants.{Operation, BasicBlock}
use Rattle.plir_core.specs.ContextView.{ContextView, IsLive, IsAncestor, children, operands_of, successors_of}
use Rattle.plir_core.specs.ContextView.{entity_node}
use Rattle.plir_core.specs.Erase.{erased}

module _ {K A T : Type 0} where
  -- no operand of the operation is a value of the tree under n, and no successor stands in that tree
  pub record UsesNoneOf (s : ContextView K A T) (n : IRNode) (op : Ptr OperationKind) : Type 0 where
    pub operands : All (λ v. IsAncestor s n (entity_node v.entity) → ⊥) (operands_of s op)
    pub successors : All (λ b. IsAncestor s n (BasicBlock b) → ⊥) (successors_of s op)

  -- the operation in the slot i, if there is a live one, is in the tree under n or uses no value and no block of it
  abbrev pub IsUnusedAt : ContextView K A T → IRNode → ℕ → Type 0
  IsUnusedAt s n i = (op : Ptr OperationKind) → op.slot ≡ i → IsLive s (Operation op) →
      (IsAncestor s n (Operation op) → ⊥) → UsesNoneOf s n op

  -- no live operation outside the tree under n uses a value or a block of that tree
  abbrev pub IsUnusedOutside : ContextView K A T → IRNode → Type 0
  IsUnusedOutside s n = (op : Ptr OperationKind) → IsLive s (Operation op) → (IsAncestor s n (Operation op) → ⊥) →
      UsesNoneOf s n op

  -- without the tree under n, whose nodes are freed one after another, each after those below it and children in order
  abbrev pub without_tree : ContextView K A T → IRNode → ContextView K A T
  without_tree s n = record s { nodes = erased s.nodes n }

  -- the child of a node at a place, from 0
  abbrev pub child_at : ContextView K A T → IRNode → ℕ → IRNode
  child_at s n i = slice_index_or (children s n) i n
