use Rattle.plir_core.proofs.arena.Arena.erase.Given as goal
use Rattle.plir_core.proofs.Erasures.{IsErasing, work_left}

abbrev pub invariant-loop-child : goal.invariant-loop-child
invariant-loop-child g l = IsErasing l.fn.self l.self l.root l.at

abbrev pub decreases-loop-child : goal.decreases-loop-child
decreases-loop-child g l = work_left l.self l.at
