-- When new nodes would be too many: the limit of live nodes would be passed, or the slot numbers of a kind are spent;
-- and what has come once they are made.
use Rattle.std.specs.Prelude.{◌≡◌, ℕ, ◌+◌, ◌-◌, ◌<◌, ◌≤◌, ◌^◌, ◌⊎◌, length}
use Rattle.plir_store.specs.Table.{Table, next_slot}
use Rattle.plir_core.specs.Nodes.{Nodes, num_nodes}

module _ {O B : Type 0} where
  -- no room for an operation with n regions
  abbrev pub IsFullForOp : Nodes O B → ℕ → Type 0
  IsFullForOp s n = (s.limit < num_nodes s + 1 + n) ⊎ ((2 ^ 32 - 1 ≤ next_slot s.ops) ⊎
      (2 ^ 32 - 1 + length s.regions.free < length s.regions.slots + n))

  -- no room for a block, or for a region
  abbrev pub IsFullForBlock : Nodes O B → Type 0
  IsFullForBlock s = (num_nodes s ≡ s.limit) ⊎ (2 ^ 32 - 1 ≤ next_slot s.blocks)

  abbrev pub IsFullForRegion : Nodes O B → Type 0
  IsFullForRegion s = (num_nodes s ≡ s.limit) ⊎ (2 ^ 32 - 1 ≤ next_slot s.regions)

-- ---- several nodes

-- How many operations, regions and blocks.
pub record NodeCount : Type 0 where
  pub ops : ℕ
  pub regions : ℕ
  pub blocks : ℕ

abbrev pub in_all : NodeCount → ℕ
in_all c = c.ops + c.regions + c.blocks

abbrev pub together : NodeCount → NodeCount → NodeCount
together c d = record { ops = c.ops + d.ops; regions = c.regions + d.regions; blocks = c.blocks + d.blocks }

abbrev pub no_node : NodeCount
no_node = record { ops = 0; regions = 0; blocks = 0 }

-- one operation, one region, and one block
abbrev pub one_op : NodeCount
one_op = record { ops = 1; regions = 0; blocks = 0 }

abbrev pub one_region : NodeCount
one_region = record { ops = 0; regions = 1; blocks = 0 }

abbrev pub one_block : NodeCount
one_block = record { ops = 0; regions = 0; blocks = 1 }

-- the numbers of a kind's slots don't reach for n nodes more; those of free slots are given out again
abbrev pub RunsOut : {C : Type 0} → Table C → ℕ → Type 0
RunsOut t n = 2 ^ 32 - 1 + length t.free < length t.slots + n

module _ {O B : Type 0} where
  -- There is no room for so many nodes more: the limit would be passed, or the slot numbers of a kind run out.
  abbrev pub IsFullFor : Nodes O B → NodeCount → Type 0
  IsFullFor s c = (s.limit < num_nodes s + in_all c) ⊎ (RunsOut s.ops c.ops ⊎ (RunsOut s.regions c.regions ⊎
      RunsOut s.blocks c.blocks))

-- from s to t so many slots of a kind were given out: new ones, or free ones
abbrev pub AreGiven : {C : Type 0} (s t : Table C) → ℕ → Type 0
AreGiven s t n = length t.slots + length s.free ≡ length s.slots + length t.free + n

-- From s to t so many nodes have come, and none has gone.
pub record HaveCome {O B : Type 0} (s t : Nodes O B) (c : NodeCount) : Type 0 where
  pub limit : t.limit ≡ s.limit
  pub live : num_nodes t ≡ num_nodes s + in_all c
  pub ops : AreGiven s.ops t.ops c.ops
  pub regions : AreGiven s.regions t.regions c.regions
  pub blocks : AreGiven s.blocks t.blocks c.blocks
