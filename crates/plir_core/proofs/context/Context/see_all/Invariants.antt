use Rattle.plir_core.specs.Noted.{AreSeen}
use Rattle.plir_core.proofs.context.Context.see_all.Given as goal

abbrev pub invariant-loop-slot : goal.invariant-loop-slot
invariant-loop-slot g l = AreSeen l.self l.value l.seen.end l.seen.owner l.seen.own
