use Rattle.plir_core.proofs.arena.Arena.is_ancestor.Given as goal
use Rattle.plir_core.proofs.Ancestors.{IsClimbing, levels_left}

abbrev pub invariant-loop-at : goal.invariant-loop-at
invariant-loop-at g l = IsClimbing l.self l.fn.node l.fn.ancestor l.at

abbrev pub decreases-loop-at : goal.decreases-loop-at
decreases-loop-at g l = levels_left l.self l.at
