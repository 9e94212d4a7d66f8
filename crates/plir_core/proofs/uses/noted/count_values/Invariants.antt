use Rattle.std.proofs.Common.{◌≡◌, take}
use Rattle.plir_core.specs.Stored.{seat_of}
use Rattle.plir_core.specs.Uses.{values_from}
use Rattle.plir_core.proofs.uses.noted.count_values.Given as goal

abbrev pub invariant-loop-value : goal.invariant-loop-value
invariant-loop-value l = l.count ≡ values_from (seat_of l.node) (take l.value-index l.values)
