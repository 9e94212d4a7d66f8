use Rattle.std.proofs.Common.{◌≡◌}
use Rattle.plir_core.proofs.uses.counts.UseCounts.note_values.Given as goal

abbrev pub invariant-loop-value : goal.invariant-loop-value
invariant-loop-value l = l.self ≡ l.fn.self
