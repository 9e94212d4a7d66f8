use Rattle.plir_core.proofs.laws.growth.Goals as goal
use Rattle.plir_core.proofs.Growing.{growth}

pub returns : goal.returns
returns g c = growth c.args.ctx.now.nodes c.stands.ensures.whole.stored
