use Rattle.std.proofs.Common.{ℕ, ◌<◌}
use Rattle.plir_roundtrip.specs.ReadableParts.{IsValueReadable}
use Rattle.plir_roundtrip.proofs.values.are_values_readable.Given as goal

abbrev pub invariant-places : goal.invariant-places
invariant-places g l = (j : ℕ) → j < l.place → IsValueReadable l.ctx l.entity j
