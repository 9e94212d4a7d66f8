use Rattle.dce.specs.Swept.{IsOpOf, IsSweptBelow}
use Rattle.dce.proofs.sweeping.sweep_ops.Given as goal

abbrev pub invariant-ops : goal.invariant-ops
invariant-ops g l =
    IsSweptBelow g.D.EffectSet.has_effect g.D.OpSet.is_terminator l.fn.node l.fn.ctx l.ctx ×
    IsOpOf l.ctx l.fn.node l.at
