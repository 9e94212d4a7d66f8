use Rattle.plir_walk.specs.ThinnedLaws.{thinned_over_walk}
use Rattle.dce.specs.Swept.{is_removable}
use Rattle.dce.proofs.sweeping.sweep.Goals as goal

pub returns-clause-swept : goal.returns-clause-swept
returns-clause-swept g c =
    thinned_over_walk (is_removable g.D.EffectSet.has_effect g.D.OpSet.is_terminator) c.lawful_changes.ensures
    c.stands.ensures.standing.forest c.requires c.walk_op-end.ensures (λ d d' t t' n m. m.1)
