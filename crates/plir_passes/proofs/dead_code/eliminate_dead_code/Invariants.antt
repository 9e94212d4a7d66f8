use Rattle.plir_core.specs.ContextView.{num_live}
use Rattle.plir_passes.proofs.Pending.{IsSweeping}
use Rattle.plir_passes.proofs.dead_code.eliminate_dead_code.Given as goal

abbrev pub invariant-dead : goal.invariant-dead
invariant-dead g l =
    IsSweeping g.D.EffectSet.has_effect g.D.OpSet.is_terminator l.fn.ctx l.fn.root l.ctx l.list

abbrev pub decreases-dead : goal.decreases-dead
decreases-dead g l = num_live l.ctx
