-- Where a node is put among the children of another one: what that asks, and what it makes of the nodes.
use Rattle.std.specs.Prelude.{◌≡◌, ℕ, ◌<◌, true, length, None, IsSome}
use Rattle.plir_store.specs.Lists.{Lists, with_first, with_last, with_before, with_after}
use Rattle.plir_core.specs.declared.arena.moving.Point.{Point}
use Rattle.plir_core.specs.declared.arena.moving.Point.TheVariants.{AtFront, AtBack, Before, After}
use Rattle.plir_core.specs.declared.ptr.Ptr.{Ptr}
use Rattle.plir_core.specs.declared.ptr.Operation.{Operation as OperationKind}
use Rattle.plir_core.specs.declared.ptr.Region.{Region as RegionKind}
use Rattle.plir_core.specs.declared.ptr.BasicBlock.{BasicBlock as BasicBlockKind}
use Rattle.plir_core.specs.declared.ptr.IRNode.{IRNode}
use Rattle.plir_core.specs.Above.{Reaches}
use Rattle.plir_core.specs.Nodes.{Nodes, is_node_live, node_parent}
use Rattle.plir_core.specs.Placed.{IsPlacedFirst, IsPlacedLast, IsPlacedBefore, IsPlacedBehind}

-- P is the kind of the parents, and C that of the children.
module _ {P C : Type 0} where
  -- the lists with the child c put at a point
  abbrev pub put_at : Lists → ℕ → Point P C → Lists
  put_at l c (AtFront p) = with_first l p.slot c
  put_at l c (AtBack p) = with_last l p.slot c
  put_at l c (Before m) = with_before l c m.slot
  put_at l c (After m) = with_after l c m.slot

  -- the parent, or the mark, that a point names has a place in the lists
  abbrev pub IsPointIn : Lists → Point P C → Type 0
  IsPointIn l (AtFront p) = p.slot < length l.children
  IsPointIn l (AtBack p) = p.slot < length l.children
  IsPointIn l (Before m) = m.slot < length l.parents
  IsPointIn l (After m) = m.slot < length l.parents

-- The same by nodes: `over` makes nodes of the pointers to parents, and `under` of those to children.
module _ {O B P C : Type 0} (s : Nodes O B) (over : Ptr P → IRNode) (under : Ptr C → IRNode) where
  -- the node that a point names
  abbrev pub named : Point P C → IRNode
  named (AtFront p) = over p
  named (AtBack p) = over p
  named (Before m) = under m
  named (After m) = under m

  -- the mark, if a point names one, is a child of some node
  abbrev pub IsMarkLinked : Point P C → Type 0
  IsMarkLinked (AtFront p) = Unit {0}
  IsMarkLinked (AtBack p) = Unit {0}
  IsMarkLinked (Before m) = IsSome (node_parent s (under m))
  IsMarkLinked (After m) = IsSome (node_parent s (under m))

  -- What is asked of a child c that is put at a point: it is live and under nothing, and what the point names is live,
  -- is a child if it is a mark, and does not stand below c.
  pub record CanBePut (c : Ptr C) (at : Point P C) : Type 0 where
    pub live : is_node_live s (under c) ≡ true
    pub named_live : is_node_live s (named at) ≡ true
    pub unlinked : node_parent s (under c) ≡ None
    pub linked : IsMarkLinked at
    pub not_above : Reaches (node_parent s) (named at) (under c) → ⊥

  -- From s to t the child c has come to a point, and nothing else has changed.
  abbrev pub IsPutAt : Nodes O B → Ptr C → Point P C → Type 0
  IsPutAt t c (AtFront p) = IsPlacedFirst s t (under c) (over p)
  IsPutAt t c (AtBack p) = IsPlacedLast s t (under c) (over p)
  IsPutAt t c (Before m) = IsPlacedBefore s t (under c) (under m)
  IsPutAt t c (After m) = IsPlacedBehind s t (under c) (under m)

module _ {O B : Type 0} where
  -- the nodes with an operation put at a point of blocks, and with a block put at a point of regions
  abbrev pub with_op_put : Nodes O B → Ptr OperationKind → Point BasicBlockKind OperationKind → Nodes O B
  with_op_put s op at = record s { ops_in_block = put_at s.ops_in_block op.slot at }

  abbrev pub with_block_put : Nodes O B → Ptr BasicBlockKind → Point RegionKind BasicBlockKind → Nodes O B
  with_block_put s block at = record s { blocks_in_region = put_at s.blocks_in_region block.slot at }
