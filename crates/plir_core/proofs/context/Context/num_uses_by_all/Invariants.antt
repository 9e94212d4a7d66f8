use Rattle.std.proofs.Common.{◌≡◌, ◌-◌, ◌^◌, min}
use Rattle.plir_core.specs.Uses.{total}
use Rattle.plir_core.specs.ValueUses.{uses_in_slot}
use Rattle.plir_core.proofs.context.Context.num_uses_by_all.Given as goal

abbrev pub invariant-loop-slot : goal.invariant-loop-slot
invariant-loop-slot g l = l.count ≡ min (total (uses_in_slot l.self l.value) l.slot) (2 ^ 64 - 1)
