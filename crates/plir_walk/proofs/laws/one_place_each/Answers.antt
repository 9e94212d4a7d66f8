use Rattle.plir_walk.proofs.Conclusions.{forest-one-place}
use Rattle.plir_walk.proofs.laws.one_place_each.Goals as goal

pub returns : goal.returns
returns g c = λ r n p q e h. forest-one-place (g.C.NodeLinks.look c.args.ctx.now) c.forest.ensures p q r n e h
