use Rattle.plir_core.proofs.laws.neighbours_outlast_an_erasure.Goals as goal
use Rattle.plir_core.proofs.Lasting.{prev-lasts, next-lasts}

pub returns-clause-prev : goal.returns-clause-prev
returns-clause-prev g c = λ beside after v e. prev-lasts c.args.ctx.now after c.stands.ensures.whole.stored c.args.op e
    beside v

pub returns-clause-next : goal.returns-clause-next
returns-clause-next g c = λ beside after v e. next-lasts c.args.ctx.now after c.stands.ensures.whole.stored c.args.op e
    beside v
