use Rattle.plir_core.proofs.laws.prev_is_before.Goals as goal
use Rattle.plir_core.proofs.Backs.{prev-before}

pub returns : goal.returns
returns g c = λ over xs ys e. prev-before c.args.ctx.now.nodes c.stands.ensures.whole.stored over c.args.child xs ys e
