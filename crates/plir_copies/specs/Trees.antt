-- What copies of trees are: of an operation, or of a block, with all that stands below it.
use Rattle.std.specs.Prelude.{◌≡◌, false, map, option_map, Some}
use Rattle.plir_core.specs.declared.ptr.Ptr.{Ptr}
use Rattle.plir_core.specs.declared.ptr.Operation.{Operation as OperationKind}
use Rattle.plir_core.specs.declared.ptr.Region.{Region as RegionKind}
use Rattle.plir_core.specs.declared.ptr.BasicBlock.{BasicBlock as BlockKind}
use Rattle.plir_core.specs.declared.ptr.IRNode.{IRNode}
use Rattle.plir_core.specs.declared.ptr.IRNode.TheVariants.{Operation, Region, BasicBlock}
use Rattle.plir_core.specs.declared.value.Value.{Value}
use Rattle.plir_core.specs.declared.value.DefiningEntity.{DefiningEntity}
use Rattle.plir_core.specs.declared.value.DefiningEntity.TheVariants.{Op, Block}
use Rattle.plir_core.specs.ContextView.{ContextView, IsLive, IsValueLive, IsAncestor, is_live, children, op_at}
use Rattle.plir_core.specs.ContextView.{block_at}
use Rattle.plir_core.specs.ContextView.{entity_node}
use Rattle.plir_copies.specs.Images.{Images}
use Rattle.plir_copies.specs.Copied.{op_under}

-- What each operation, each region and each block has become.
pub record Copies : Type 0 where
  pub op : Ptr OperationKind → Ptr OperationKind
  pub region : Ptr RegionKind → Ptr RegionKind
  pub block : Ptr BlockKind → Ptr BlockKind

-- what a node has become, and what the values of an operation or a block come from now
abbrev pub node_copy : Copies → IRNode → IRNode
node_copy c (Operation p) = Operation (c.op p)
node_copy c (Region p) = Region (c.region p)
node_copy c (BasicBlock p) = BasicBlock (c.block p)

abbrev pub entity_copy : Copies → DefiningEntity → DefiningEntity
entity_copy c (Op p) = Op (c.op p)
entity_copy c (Block p) = Block (c.block p)

-- what a value has become: the one at its place
abbrev pub value_copy : Copies → Value → Value
value_copy c v = record { entity = entity_copy c v.entity; index = v.index }

module _ {K A T : Type 0} (s t : ContextView K A T) (c : Copies) (m : Images) where
  -- What the copy of a node holds in t: of an operation what that holds in s, but for what stands in place of its
  -- operands and successors, and for the call in place of which it stands; of a block what that holds. A region holds
  -- nothing of its own.
  abbrev pub HoldsTheSame : IRNode → Type 0
  HoldsTheSame (Operation p) = op_at t (c.op p) ≡ option_map (op_under m) (op_at s p)
  HoldsTheSame (Region p) = Unit {0}
  HoldsTheSame (BasicBlock p) = block_at t (c.block p) ≡ block_at s p

  -- The copy of a node is new and live in t, holds the same, and its children are the copies of the node's, in their
  -- order.
  pub record IsCopied (n : IRNode) : Type 0 where
    pub new : is_live s (node_copy c n) ≡ false
    pub live : IsLive t (node_copy c n)
    pub holds : HoldsTheSame n
    pub children : children t (node_copy c n) ≡ map (node_copy c) (children s n)

  -- each node of the tree under a root is copied: the two trees are the same, but for what the map says
  abbrev pub IsTreeCopied : IRNode → Type 0
  IsTreeCopied root = (n : IRNode) → IsAncestor s root n → IsCopied n

-- Behind a copy of the tree under a root, a map that was m has become n: each value and each block of the tree has been
-- put in place as its copy, and all else is as it was, the call too in place of which copies stand.
pub record HoldsCopies {K A T : Type 0} (s : ContextView K A T) (root : IRNode) (c : Copies) (m n : Images) : Type 0 where
  pub values : (v : Value) → IsAncestor s root (entity_node v.entity) → IsValueLive s v →
      n.value v ≡ Some (value_copy c v)
  pub blocks : (b : Ptr BlockKind) → IsAncestor s root (BasicBlock b) → n.block b ≡ Some (c.block b)
  pub other_values : (v : Value) → (IsAncestor s root (entity_node v.entity) → IsValueLive s v → ⊥) →
      n.value v ≡ m.value v
  pub other_blocks : (b : Ptr BlockKind) → (IsAncestor s root (BasicBlock b) → ⊥) → n.block b ≡ m.block b
  pub call : n.call ≡ m.call

-- From s to t the tree under `root` was copied, its copy is the tree under `copy`, and a map has become n that was m.
pub record IsCopyOfTree {K A T : Type 0} (s t : ContextView K A T) (root copy : IRNode) (m n : Images) : Type 0 where
  pub copies : Copies
  pub top : node_copy copies root ≡ copy
  pub tree : IsTreeCopied s t copies n root
  pub mapped : HoldsCopies s root copies m n
