-- Where the values and the blocks stand that operations of a tree use.
use Rattle.std.specs.Prelude.{◌≡◌, ◌↔◌, ◌<◌, ◌^◌, Bool, true, false, All, length, Option, Some}
use Rattle.plir_data.specs.declared.op_set.OpKind.{OpKind}
use Rattle.plir_data.specs.declared.op_set.OpKind.TheVariants.{Module, Func, Own}
use Rattle.plir_core.specs.declared.ptr.Ptr.{Ptr}
use Rattle.plir_core.specs.declared.ptr.Operation.{Operation as OperationKind}
use Rattle.plir_core.specs.declared.ptr.Region.{Region as RegionKind}
use Rattle.plir_core.specs.declared.ptr.BasicBlock.{BasicBlock as BlockKind}
use Rattle.plir_core.specs.declared.ptr.IRNode.{IRNode}
use Rattle.plir_core.specs.declared.ptr.IRNode.TheVariants.{Operation, Region, BasicBlock}
use Rattle.plir_core.specs.declared.value.DefiningEntity.{DefiningEntity}
use Rattle.plir_core.specs.declared.value.Value.{Value}
use Rattle.plir_core.specs.ContextView.{ContextView, children, entity_node, kind_of, operands_of, parent_of}
use Rattle.plir_core.specs.ContextView.{region_above, successors_of, types_from}
use Rattle.plir_walk.specs.Tree.{IsProperlyUnder, IsUnder}

-- Whether names in the regions of operations of a kind mean nothing that stands outside: so it is with modules, with
-- functions, and with the kinds of one's own that `isolated` names.
abbrev pub is_kind_isolated : {K : Type 0} → (isolated : K → Bool) → Option (OpKind K) → Bool
is_kind_isolated isolated (Some Module) = true
is_kind_isolated isolated (Some Func) = true
is_kind_isolated isolated (Some (Own k)) = isolated k
is_kind_isolated isolated _ = false

-- A block that an operation of the tree under a root can name: it stands in one region of the tree with the operation's
-- block.
pub record IsBeside {K A T : Type 0} (s : ContextView K A T) (root : IRNode) (p : Ptr OperationKind)
    (b : Ptr BlockKind) : Type 0 where
  pub region : Ptr RegionKind
  pub within : IsUnder (children s) root (Region region)
  pub op : region_above s p ≡ Some (Region region)
  pub block : parent_of s (BasicBlock b) ≡ Some (Region region)

-- the values of the tree under a root
module _ {K A T : Type 0} (isolated : K → Bool) (s : ContextView K A T) (root : IRNode) where
  -- an isolated operation of the tree stands around a node: the node is below it
  pub record StandsAround (a : Ptr OperationKind) (n : IRNode) : Type 0 where
    pub alone : is_kind_isolated isolated (kind_of s a) ≡ true
    pub within : IsUnder (children s) root (Operation a)
    pub below : IsProperlyUnder (children s) (Operation a) n

  -- the same isolated operations of the tree stand around two nodes, so the innermost of them is the same
  abbrev pub AreInOneBody : IRNode → IRNode → Type 0
  AreInOneBody n m = (a : Ptr OperationKind) → StandsAround a n ↔ StandsAround a m

  -- a value that an operation can name: it comes from a node of the tree, in the same body
  pub record IsWithinReach (p : Ptr OperationKind) (v : Value) : Type 0 where
    pub within : IsUnder (children s) root (entity_node v.entity)
    pub body : AreInOneBody (Operation p) (entity_node v.entity)

  -- each operation of the tree uses what it can name
  pub record UsesWithin : Type 0 where
    pub operands : (p : Ptr OperationKind) → IsUnder (children s) root (Operation p) →
        All (IsWithinReach p) (operands_of s p)
    pub successors : (p : Ptr OperationKind) → IsUnder (children s) root (Operation p) →
        All (IsBeside s root p) (successors_of s p)

-- Each operation of the tree has fewer than 2 ^ 64 results, and each block fewer arguments: more no program can hold.
abbrev pub AreCounted : {K A T : Type 0} → ContextView K A T → IRNode → Type 0
AreCounted s root = (e : DefiningEntity) → IsUnder (children s) root (entity_node e) → length (types_from s e) < 2 ^ 64
