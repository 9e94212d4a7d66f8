-- Trees of two contexts that are the same.
use Rattle.std.specs.Prelude.{◌≡◌, ℕ, ◌<◌, List, [], false, length, Option, Some, None}
use Rattle.plir_data.specs.AttrView.{AttrView}
use Rattle.plir_data.specs.Dictionary.{dict_get, is_key}
use Rattle.plir_data.specs.Keys.{names_key}
use Rattle.plir_core.specs.declared.ptr.Ptr.{Ptr}
use Rattle.plir_core.specs.declared.ptr.Operation.{Operation as OperationKind}
use Rattle.plir_core.specs.declared.ptr.BasicBlock.{BasicBlock as BlockKind}
use Rattle.plir_core.specs.declared.ptr.IRNode.{IRNode}
use Rattle.plir_core.specs.declared.ptr.IRNode.TheVariants.{Operation, Region, BasicBlock}
use Rattle.plir_core.specs.declared.value.DefiningEntity.{DefiningEntity}
use Rattle.plir_core.specs.declared.value.DefiningEntity.TheVariants.{Op, Block}
use Rattle.plir_core.specs.ContextView.{ContextView, children, kind_of, operands_of, successors_of, label_of}
use Rattle.plir_core.specs.ContextView.{types_from}
use Rattle.plir_walk.specs.GivenNames.{names_at, name_at, attributes_at}
use Rattle.plir_walk.specs.Tree.{Place, node_at}

-- the same stands under each key but that of names
abbrev pub HoldSame : {A : Type 0} → List (List ℕ × AttrView A) → List (List ℕ × AttrView A) → Type 0
HoldSame es fs = (k : List ℕ) → is_key k names_key ≡ false → dict_get es k ≡ dict_get fs k

-- The contexts s and t: of t the table of types has grown from that of s, so a handle of s names the same type in both.
module _ {K A T : Type 0} (s t : ContextView K A T) where
  -- Results or arguments have the same types and given names, and what they come from has the same attributes.
  pub record AreSameFrom (e f : DefiningEntity) : Type 0 where
    pub types : types_from s e ≡ types_from t f
    pub names : (i : ℕ) → i < length (types_from s e) → name_at (names_at s e) i ≡ name_at (names_at t f) i
    pub attributes : HoldSame (attributes_at s e) (attributes_at t f)

  -- operations of one kind, without operands and successors
  pub record IsSameOp (p q : Ptr OperationKind) : Type 0 where
    pub kind : kind_of s p ≡ kind_of t q
    pub results : AreSameFrom (Op p) (Op q)
    pub operands : (operands_of s p ≡ []) × (operands_of t q ≡ [])
    pub successors : (successors_of s p ≡ []) × (successors_of t q ≡ [])

  -- blocks with one label
  pub record IsSameBlock (b c : Ptr BlockKind) : Type 0 where
    pub label : label_of s b ≡ label_of t c
    pub arguments : AreSameFrom (Block b) (Block c)

  -- nodes of one kind that hold the same
  abbrev pub IsSameNode : IRNode → IRNode → Type 0
  IsSameNode (Operation p) (Operation q) = IsSameOp p q
  IsSameNode (Operation p) (Region r) = ⊥
  IsSameNode (Operation p) (BasicBlock b) = ⊥
  IsSameNode (Region r) (Operation p) = ⊥
  IsSameNode (Region r) (Region q) = Unit {0}
  IsSameNode (Region r) (BasicBlock b) = ⊥
  IsSameNode (BasicBlock b) (Operation p) = ⊥
  IsSameNode (BasicBlock b) (Region r) = ⊥
  IsSameNode (BasicBlock b) (BasicBlock c) = IsSameBlock b c

  -- the same node, or none in both
  abbrev pub IsSameOrNone : Option IRNode → Option IRNode → Type 0
  IsSameOrNone None None = Unit {0}
  IsSameOrNone None (Some y) = ⊥
  IsSameOrNone (Some x) None = ⊥
  IsSameOrNone (Some x) (Some y) = IsSameNode x y

  -- The tree under x in s is that under y in t, but for slots, versions and locations: at each place under the two
  -- stands the same node, or none in both.
  abbrev pub IsSameTree : IRNode → IRNode → Type 0
  IsSameTree x y = (place : Place) → IsSameOrNone (node_at (children s) x place) (node_at (children t) y place)
