-- What operations are left with that let go of what they use, before they are erased.
use Rattle.std.specs.Prelude.{◌≡◌, ℕ, false, List, [], ◌∷◌, ◌⊎◌, Some}
use Rattle.plir_store.specs.Members.{Has}
use Rattle.plir_core.specs.declared.ptr.Ptr.{Ptr}
use Rattle.plir_core.specs.declared.ptr.Operation.{Operation as OperationKind}
use Rattle.plir_core.specs.declared.ptr.BasicBlock.{BasicBlock as BlockKind}
use Rattle.plir_core.specs.declared.ptr.IRNode.{IRNode}
use Rattle.plir_core.specs.declared.ptr.IRNode.TheVariants.{Operation, Region, BasicBlock}
use Rattle.plir_core.specs.Erase.{without_nodes}
use Rattle.plir_core.specs.Forest.{look, IsForest}
use Rattle.plir_core.specs.Held.{KeepsNodes}
use Rattle.plir_core.specs.ContextView.{ContextView, IsAncestor, IsLive, block_at, is_live, num_live, op_at}
use Rattle.plir_core.specs.ContextView.{operands_of, parent_of, successors_of}
use Rattle.plir_walk.specs.Thinned.{IsThinned}
use Rattle.plir_passes.specs.Marked.{is_among, ops_of}
use Rattle.plir_passes.specs.declared.marks.Marks.{Marks}

-- an operation in a slot is among some nodes
abbrev pub HasSlot : List IRNode → ℕ → Type 0
HasSlot [] i = ⊥
HasSlot (Operation p ∷ ns) i = (p.slot ≡ i) ⊎ HasSlot ns i
HasSlot (Region p ∷ ns) i = HasSlot ns i
HasSlot (BasicBlock p ∷ ns) i = HasSlot ns i

module _ {K A T : Type 0} where
  -- From s to t operations that D holds of have come to hold something else, and nothing else has changed. So the same
  -- is left where these are freed.
  pub record IsCut (D : Ptr OperationKind → Type 0) (s t : ContextView K A T) : Type 0 where
    pub keeps : KeepsNodes s t
    pub ops : (q : Ptr OperationKind) → IsLive s (Operation q) → (D q → ⊥) → op_at t q ≡ op_at s q
    pub blocks : (b : Ptr BlockKind) → block_at t b ≡ block_at s b
    pub count : num_live t ≡ num_live s
    pub freed : (ns : List IRNode) → ((q : Ptr OperationKind) → D q → HasSlot ns q.slot) →
        without_nodes t.nodes ns ≡ without_nodes s.nodes ns

  -- an operation has no operand, and no successor but the block that it stands in
  pub record UsesNothing (s : ContextView K A T) (p : Ptr OperationKind) : Type 0 where
    pub operands : operands_of s p ≡ []
    pub successors : (b : Ptr BlockKind) → Has (successors_of s p) b → parent_of s (Operation p) ≡ Some (BasicBlock b)

  -- From s to t each operation that D holds of is gone, with all below it, and nothing else has changed.
  pub record AreErased (D : Ptr OperationKind → Type 0) (s t : ContextView K A T) : Type 0 where
    pub gone : (q : Ptr OperationKind) → D q → is_live t (Operation q) ≡ false
    pub left : (n : IRNode) → IsLive s n → ((q : Ptr OperationKind) → D q → IsAncestor s (Operation q) n → ⊥) →
        IsLive t n
    pub thinned : IsThinned s t
    pub forest : IsForest (look t)

-- an operation is among those that are under the root, and not among those that are reached
abbrev pub IsLoose : Marks → Marks → Ptr OperationKind → Type 0
IsLoose under reached q = Has (ops_of under) q × (is_among (ops_of reached) q ≡ false)
