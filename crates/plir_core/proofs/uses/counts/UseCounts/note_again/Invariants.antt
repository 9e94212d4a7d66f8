use Rattle.std.proofs.Common.{◌≡◌}
use Rattle.plir_core.proofs.uses.counts.UseCounts.note_again.Given as goal

abbrev pub invariant-loop-slot : goal.invariant-loop-slot
invariant-loop-slot g l = l.self ≡ l.fn.self
