use Rattle.std.proofs.Common.{◌≡◌, take}
use Rattle.plir_core.specs.ValueUses.{times_in}
use Rattle.plir_core.proofs.uses.value_uses.count_among.Given as goal

abbrev pub invariant-loop-other : goal.invariant-loop-other
invariant-loop-other l = l.count ≡ times_in l.value (take l.other-index l.values)
