use Rattle.std.proofs.Common.{◌≡◌}
use Rattle.plir_core.proofs.uses.counts.UseCounts.note_blocks.Given as goal

abbrev pub invariant-loop-block : goal.invariant-loop-block
invariant-loop-block l = l.self ≡ l.fn.self
