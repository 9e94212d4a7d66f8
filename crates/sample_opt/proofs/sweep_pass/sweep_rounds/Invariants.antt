use Rattle.plir_core.specs.declared.ptr.IRNode.TheVariants.{Operation}
use Rattle.plir_core.specs.ContextView.{IsLive}
use Rattle.plir_walk.specs.Thinned.{IsThinned}
use Rattle.sample_opt.specs.Rounds.{AreSwept}
use Rattle.sample_opt.proofs.sweep_pass.sweep_rounds.Given as goal

-- the operation is there, what is below it was swept as often as the loop has come, and nothing else has changed
abbrev pub invariant-loop : goal.invariant-loop
invariant-loop g l =
    IsLive l.ctx (Operation l.root)
    × AreSwept g.D.EffectSet.has_effect g.D.OpSet.is_terminator (Operation l.root) l.counter l.fn.ctx l.ctx
    × IsThinned l.fn.ctx l.ctx
