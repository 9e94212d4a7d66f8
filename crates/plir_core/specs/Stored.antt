-- What holds of the slots and lists in which a context keeps its nodes.
use Rattle.std.specs.Prelude.{◌≡◌, ℕ, ◌<◌, ◌≤◌, ◌^◌, length, Option, Some, IsSome, option_map}
use Rattle.plir_store.specs.Lists.{Lists, IsAgreed, parent_at}
use Rattle.plir_store.specs.Table.{Table, IsTable, content_at}
use Rattle.plir_core.specs.Above.{IsGrounded}
use Rattle.plir_core.specs.Nodes.{Nodes, num_nodes}
use Rattle.plir_core.specs.declared.ptr.IRNode.{IRNode}
use Rattle.plir_core.specs.declared.ptr.IRNode.TheVariants.{Operation, Region, BasicBlock}

-- Where a node sits: a slot of one of the three kinds.
pub data Seat : Type 0 where
  op : ℕ → Seat
  region : ℕ → Seat
  block : ℕ → Seat

-- the seat of a node
abbrev pub seat_of : IRNode → Seat
seat_of (Operation p) = op p.slot
seat_of (Region p) = region p.slot
seat_of (BasicBlock p) = block p.slot

-- The lists give children (slots of one table) to parents (slots of another): there is a place for each slot, each
-- child that is listed has the list's owner as its parent and stands there once, and only live nodes are linked.
pub record IsListing {C P : Type 0} (l : Lists) (child_table : Table C) (parents : Table P) : Type 0 where
  pub child_places : length l.parents ≡ length child_table.slots
  pub parent_places : length l.children ≡ length parents.slots
  pub agreed : IsAgreed l
  pub linked_live : (c p : ℕ) → parent_at l c ≡ Some p → IsSome (content_at child_table c)
      × IsSome (content_at parents p)

module _ {O B : Type 0} where
  -- the seat right above a seat
  abbrev pub up : Nodes O B → Seat → Option Seat
  up s (op i) = option_map block (parent_at s.ops_in_block i)
  up s (region i) = option_map op (parent_at s.regions_in_op i)
  up s (block i) = option_map region (parent_at s.blocks_in_region i)

  pub record IsStored (s : Nodes O B) : Type 0 where
    -- what is listed where, each node in one list at most and once
    pub regions_listed : IsListing s.regions_in_op s.regions s.ops
    pub blocks_listed : IsListing s.blocks_in_region s.blocks s.regions
    pub ops_listed : IsListing s.ops_in_block s.ops s.blocks
    -- each region has a parent
    pub regions_owned : (r : ℕ) → IsSome (content_at s.regions r) → IsSome (parent_at s.regions_in_op r)
    -- no node is above itself
    pub grounded : IsGrounded (up s)
    -- slots have versions from 1, and those that are free are vacant
    pub op_slots : IsTable s.ops
    pub region_slots : IsTable s.regions
    pub block_slots : IsTable s.blocks
    -- there are no more nodes than there may be
    pub within : num_nodes s ≤ s.limit
    pub limit_fits : s.limit < 2 ^ 32
