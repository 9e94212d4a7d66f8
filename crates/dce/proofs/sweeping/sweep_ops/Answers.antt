use Rattle.dce.proofs.sweeping.sweep_ops.Goals as goal

pub ops-init : goal.ops-init
ops-init g c = (c.leaves_thin.ensures.none _ _ _ c.stands.ensures.standing.forest, c.requires.here)
