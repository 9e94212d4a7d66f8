use Rattle.plir_core.proofs.laws.index_is_slot_and_one.Goals as goal
use Rattle.plir_core.proofs.Indices.{indexed}

pub returns : goal.returns
returns g c = indexed c.args.ctx.now c.stands.ensures.whole.stored
