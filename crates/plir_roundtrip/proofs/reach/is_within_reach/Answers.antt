use Rattle.std.proofs.Common.{subst}
use Rattle.plir_core.specs.ContextView.{entity_node}
use Rattle.plir_core.specs.declared.ptr.IRNode.TheVariants.{Operation}
use Rattle.plir_roundtrip.specs.Obstacles.{IsBodyTold}
use Rattle.plir_roundtrip.proofs.Climbs.{reach_is}
use Rattle.plir_roundtrip.proofs.reach.is_within_reach.Goals as goal

pub returns : goal.returns
returns g c =
    let s = c.args.ctx.now in
    let n = entity_node c.args.value.entity in
    let told =
    subst (λ z. IsBodyTold g.D.ReadSet.is_isolated s (Operation c.args.root) z c.body_around.result) c.node_of.ensures
    c.body_around.ensures in
    let is =
    reach_is s c.stands.ensures.standing g.D.ReadSet.is_isolated (Operation c.args.root) (Operation c.args.op) n
    c.args.body c.body_around.result c.requires.under c.requires.told told in (
      λ t. let r = is.0 (c.is_same_body.ensures.0 t) in record { within = r.0; body = r.1 },
      λ r. c.is_same_body.ensures.1 (is.1 (r.within, r.body)),
    )
