-- The nodes of a context: what they hold, which of them are live, and what stands under what.
use Rattle.std.specs.Prelude.{ℕ, ◌+◌, ◌-◌, ◌^◌, min, Bool, ◌&&◌, nat_lt, nat_le, cond, map, List, [], Option, None}
use Rattle.std.specs.Prelude.{option_map}
use Rattle.plir_store.specs.Members.{head}
use Rattle.plir_store.specs.Lists.{Lists, parent_at, children_at, last_of, next_of, prev_of}
use Rattle.plir_store.specs.Table.{Table, version_at, is_live_at, num_full}
use Rattle.plir_core.specs.declared.ptr.Ptr.{Ptr}
use Rattle.plir_core.specs.declared.ptr.Region.{Region as RegionKind}
use Rattle.plir_core.specs.declared.ptr.IRNode.{IRNode}
use Rattle.plir_core.specs.declared.ptr.IRNode.TheVariants.{Operation, Region, BasicBlock}

-- The slots of each kind with what they hold (O is what an operation holds and B what a block holds; a region
-- holds nothing of its own), what stands under what, and how many nodes there may be.
pub record Nodes (O B : Type 0) : Type 0 where
  pub ops : Table O
  pub regions : Table RegionKind
  pub blocks : Table B
  pub regions_in_op : Lists
  pub blocks_in_region : Lists
  pub ops_in_block : Lists
  pub limit : ℕ

-- the pointer to what a slot holds
abbrev pub ptr_at : {C X : Type 0} → Table C → ℕ → Ptr X
ptr_at t i = record { slot = i; version = version_at t i; kind = record {} }

-- the number of a pointer's slot, from 1; no node has the slot past the last number
abbrev pub index_of : {X : Type 0} → Ptr X → ℕ
index_of p = min (p.slot + 1) (2 ^ 32 - 1)

-- the pointer has been given out: its slot has held a node under its version
abbrev pub is_given_out : {C X : Type 0} → Table C → Ptr X → Bool
is_given_out t p = nat_lt 0 p.version && nat_le p.version (version_at t p.slot)

module _ {O B : Type 0} where
  abbrev pub op_node : Nodes O B → ℕ → IRNode
  op_node s i = Operation (ptr_at s.ops i)

  abbrev pub region_node : Nodes O B → ℕ → IRNode
  region_node s i = Region (ptr_at s.regions i)

  abbrev pub block_node : Nodes O B → ℕ → IRNode
  block_node s i = BasicBlock (ptr_at s.blocks i)

  -- whether a node is live
  abbrev pub is_node_live : Nodes O B → IRNode → Bool
  is_node_live s (Operation p) = is_live_at s.ops p.slot p.version
  is_node_live s (Region p) = is_live_at s.regions p.slot p.version
  is_node_live s (BasicBlock p) = is_live_at s.blocks p.slot p.version

  -- whether a pointer to a node was ever given out
  abbrev pub was_given_out : Nodes O B → IRNode → Bool
  was_given_out s (Operation p) = is_given_out s.ops p
  was_given_out s (Region p) = is_given_out s.regions p
  was_given_out s (BasicBlock p) = is_given_out s.blocks p

  -- how many nodes are live
  abbrev pub num_nodes : Nodes O B → ℕ
  num_nodes s = num_full s.ops + num_full s.regions + num_full s.blocks

  -- the nodes under what a slot holds, in order
  abbrev pub nodes_under : Nodes O B → IRNode → List IRNode
  nodes_under s (Operation p) = map (region_node s) (children_at s.regions_in_op p.slot)
  nodes_under s (Region p) = map (block_node s) (children_at s.blocks_in_region p.slot)
  nodes_under s (BasicBlock p) = map (op_node s) (children_at s.ops_in_block p.slot)

  -- the node right above what a slot holds
  abbrev pub node_over : Nodes O B → IRNode → Option IRNode
  node_over s (Operation p) = option_map (block_node s) (parent_at s.ops_in_block p.slot)
  node_over s (Region p) = option_map (op_node s) (parent_at s.regions_in_op p.slot)
  node_over s (BasicBlock p) = option_map (region_node s) (parent_at s.blocks_in_region p.slot)

  -- the children of a node in order: an operation's regions, a region's blocks, a block's operations; a dead node has
  -- none
  abbrev pub node_children : Nodes O B → IRNode → List IRNode
  node_children s n = cond (is_node_live s n) (nodes_under s n) []

  -- the node whose child a node is; a dead node has none
  abbrev pub node_parent : Nodes O B → IRNode → Option IRNode
  node_parent s n = cond (is_node_live s n) (node_over s n) None

  -- the first and the last child of what a slot holds, and what stands right after and right before it
  abbrev pub first_under : Nodes O B → IRNode → Option IRNode
  first_under s (Operation p) = option_map (region_node s) (head (children_at s.regions_in_op p.slot))
  first_under s (Region p) = option_map (block_node s) (head (children_at s.blocks_in_region p.slot))
  first_under s (BasicBlock p) = option_map (op_node s) (head (children_at s.ops_in_block p.slot))

  abbrev pub last_under : Nodes O B → IRNode → Option IRNode
  last_under s (Operation p) = option_map (region_node s) (last_of (children_at s.regions_in_op p.slot))
  last_under s (Region p) = option_map (block_node s) (last_of (children_at s.blocks_in_region p.slot))
  last_under s (BasicBlock p) = option_map (op_node s) (last_of (children_at s.ops_in_block p.slot))

  abbrev pub right_after : Nodes O B → IRNode → Option IRNode
  right_after s (Operation p) = option_map (op_node s) (next_of s.ops_in_block p.slot)
  right_after s (Region p) = option_map (region_node s) (next_of s.regions_in_op p.slot)
  right_after s (BasicBlock p) = option_map (block_node s) (next_of s.blocks_in_region p.slot)

  abbrev pub right_before : Nodes O B → IRNode → Option IRNode
  right_before s (Operation p) = option_map (op_node s) (prev_of s.ops_in_block p.slot)
  right_before s (Region p) = option_map (region_node s) (prev_of s.regions_in_op p.slot)
  right_before s (BasicBlock p) = option_map (block_node s) (prev_of s.blocks_in_region p.slot)

  -- the first and the last child of a node, and its siblings right after and right before it; a dead node has none
  abbrev pub node_first : Nodes O B → IRNode → Option IRNode
  node_first s n = cond (is_node_live s n) (first_under s n) None

  abbrev pub node_last : Nodes O B → IRNode → Option IRNode
  node_last s n = cond (is_node_live s n) (last_under s n) None

  abbrev pub node_next : Nodes O B → IRNode → Option IRNode
  node_next s n = cond (is_node_live s n) (right_after s n) None

  abbrev pub node_prev : Nodes O B → IRNode → Option IRNode
  node_prev s n = cond (is_node_live s n) (right_before s n) None
