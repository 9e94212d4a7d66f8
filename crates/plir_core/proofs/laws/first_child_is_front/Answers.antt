use Rattle.plir_core.proofs.laws.first_child_is_front.Goals as goal
use Rattle.plir_core.proofs.ChildPlaces.{first-head, first-place}

pub returns-clause-place : goal.returns-clause-place
returns-clause-place g c = first-place c.args.ctx.now.nodes c.args.over

pub returns-clause-front : goal.returns-clause-front
returns-clause-front g c = first-head c.args.ctx.now.nodes c.args.over
