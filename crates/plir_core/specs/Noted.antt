-- What is seen of the uses of a value in some slots of operations.
use Rattle.std.specs.Prelude.{◌≡◌, ℕ, ◌+◌, ◌≤◌, length}
use Rattle.plir_store.specs.Table.{content_at}
use Rattle.plir_core.specs.declared.value.Value.{Value}
use Rattle.plir_core.specs.Stored.{seat_of}
use Rattle.plir_core.specs.ContextView.{ContextView, entity_node}
use Rattle.plir_core.specs.Uses.{total, uses_held}
use Rattle.plir_core.specs.ValueUses.{uses_in_slot}

module _ {K A T : Type 0} where
  -- how often what a slot holds uses the operation or block that a value comes from
  abbrev pub owner_uses_in : ContextView K A T → Value → ℕ → ℕ
  owner_uses_in s v i = uses_held (seat_of (entity_node v.entity)) (content_at s.nodes.ops i)

  -- In the slots before `end` what the value comes from is used `owner` times and the value `own` times; but for some
  -- that were passed over, where it is used no more often than what it comes from.
  pub record AreSeen (s : ContextView K A T) (v : Value) (end owner own : ℕ) : Type 0 where
    pub passed : ℕ
    pub passed_own : ℕ
    pub fewer : passed_own ≤ passed
    pub owner_sum : total (owner_uses_in s v) end ≡ owner + passed
    pub own_sum : total (uses_in_slot s v) end ≡ own + passed_own
    pub within : end ≤ length s.nodes.ops.slots
