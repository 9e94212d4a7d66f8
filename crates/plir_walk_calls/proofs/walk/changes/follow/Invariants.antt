use Rattle.plir_core.specs.ContextView.{IsLive}
use Rattle.plir_core.specs.Forest.{look}
use Rattle.plir_walk.specs.Lawful.{Lawful}
use Rattle.plir_walk_calls.proofs.walk.changes.follow.Given as goal

abbrev pub invariant-loop-at : goal.invariant-loop-at
invariant-loop-at g l = Lawful (look l.fn.ctx) l.node (look l.ctx) × IsLive l.ctx l.node
