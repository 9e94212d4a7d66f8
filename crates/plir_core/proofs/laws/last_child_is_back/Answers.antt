use Rattle.plir_core.proofs.laws.last_child_is_back.Goals as goal
use Rattle.plir_core.proofs.Backs.{last-head}

pub returns : goal.returns
returns g c = last-head c.args.ctx.now.nodes c.args.over
