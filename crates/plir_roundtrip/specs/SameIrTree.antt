-- Trees of two contexts that are the same, with what their operations use.
use Rattle.std.specs.Prelude.{◌≡◌, List, [], ◌∷◌, Option, Some, None}
use Rattle.plir_core.specs.declared.ptr.Ptr.{Ptr}
use Rattle.plir_core.specs.declared.ptr.Operation.{Operation as OperationKind}
use Rattle.plir_core.specs.declared.ptr.BasicBlock.{BasicBlock as BlockKind}
use Rattle.plir_core.specs.declared.ptr.IRNode.{IRNode}
use Rattle.plir_core.specs.declared.ptr.IRNode.TheVariants.{Operation, Region, BasicBlock}
use Rattle.plir_core.specs.declared.value.Value.{Value}
use Rattle.plir_core.specs.declared.value.DefiningEntity.TheVariants.{Op}
use Rattle.plir_core.specs.ContextView.{ContextView, children, entity_node, kind_of, operands_of, successors_of}
use Rattle.plir_walk.specs.Tree.{Place, node_at}
use Rattle.plir_roundtrip.specs.SameTree.{AreSameFrom, IsSameBlock}

-- as many things as others, each of them matched with the other at its place
abbrev pub Pairwise : {X Y : Type 0} → (X → Y → Type 0) → List X → List Y → Type 0
Pairwise R [] [] = Unit {0}
Pairwise R [] (y ∷ ys) = ⊥
Pairwise R (x ∷ xs) [] = ⊥
Pairwise R (x ∷ xs) (y ∷ ys) = R x y × Pairwise R xs ys

-- The contexts s and t, and in them the roots x and y: of t the table of types has grown from that of s.
module _ {K A T : Type 0} (s t : ContextView K A T) (x y : IRNode) where
  -- one node stands at the same place under x as the other under y
  abbrev pub AreAtOnePlace : IRNode → IRNode → Type 0
  AreAtOnePlace a b = (place : Place) × (node_at (children s) x place ≡ Some a) ×
      (node_at (children t) y place ≡ Some b)

  -- values with one index, of operations or blocks at the same place
  pub record IsSameValue (v w : Value) : Type 0 where
    pub from : AreAtOnePlace (entity_node v.entity) (entity_node w.entity)
    pub index : v.index ≡ w.index

  -- blocks at the same place
  abbrev pub IsSameTarget : Ptr BlockKind → Ptr BlockKind → Type 0
  IsSameTarget b c = AreAtOnePlace (BasicBlock b) (BasicBlock c)

  -- operations of one kind, whose results are the same, and which use values and blocks at the same places
  pub record IsSameIrOp (p q : Ptr OperationKind) : Type 0 where
    pub kind : kind_of s p ≡ kind_of t q
    pub results : AreSameFrom s t (Op p) (Op q)
    pub operands : Pairwise IsSameValue (operands_of s p) (operands_of t q)
    pub successors : Pairwise IsSameTarget (successors_of s p) (successors_of t q)

  -- nodes of one kind that hold the same
  abbrev pub IsSameIrNode : IRNode → IRNode → Type 0
  IsSameIrNode (Operation p) (Operation q) = IsSameIrOp p q
  IsSameIrNode (Operation p) (Region r) = ⊥
  IsSameIrNode (Operation p) (BasicBlock b) = ⊥
  IsSameIrNode (Region r) (Operation p) = ⊥
  IsSameIrNode (Region r) (Region q) = Unit {0}
  IsSameIrNode (Region r) (BasicBlock b) = ⊥
  IsSameIrNode (BasicBlock b) (Operation p) = ⊥
  IsSameIrNode (BasicBlock b) (Region r) = ⊥
  IsSameIrNode (BasicBlock b) (BasicBlock c) = IsSameBlock s t b c

  -- the same node, or none in both
  abbrev pub IsSameIrOrNone : Option IRNode → Option IRNode → Type 0
  IsSameIrOrNone None None = Unit {0}
  IsSameIrOrNone None (Some b) = ⊥
  IsSameIrOrNone (Some a) None = ⊥
  IsSameIrOrNone (Some a) (Some b) = IsSameIrNode a b

  -- The tree under x in s is that under y in t, but for slots, versions and locations: at each place under the two
  -- stands the same node, or none in both, and what an operation uses stands at the same places.
  abbrev pub IsSameIrTree : Type 0
  IsSameIrTree = (place : Place) → IsSameIrOrNone (node_at (children s) x place) (node_at (children t) y place)
