use Rattle.plir_core.proofs.Scan.{IsUnusedBelow}
use Rattle.plir_core.proofs.context.Context.is_unused_by_all.Given as goal

abbrev pub invariant-loop-slot : goal.invariant-loop-slot
invariant-loop-slot g l = IsUnusedBelow l.self l.root l.slot
