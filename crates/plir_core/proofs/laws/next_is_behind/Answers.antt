use Rattle.plir_core.proofs.laws.next_is_behind.Goals as goal
use Rattle.plir_core.proofs.ChildPlaces.{next-behind}

pub returns : goal.returns
returns g c = λ over xs ys e. next-behind c.args.ctx.now.nodes c.stands.ensures.whole.stored over c.args.child xs ys e
