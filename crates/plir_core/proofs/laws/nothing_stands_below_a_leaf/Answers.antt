use Rattle.plir_core.proofs.Leaves.{reached-alone}
use Rattle.plir_core.proofs.laws.nothing_stands_below_a_leaf.Goals as goal

pub returns : goal.returns
returns g c = λ n r. reached-alone c.args.ctx.now.nodes c.stands.ensures.whole.stored c.args.leaf n c.requires r.0 r.1
