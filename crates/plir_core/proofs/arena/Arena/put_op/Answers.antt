use Rattle.plir_core.proofs.arena.Arena.put_op.Goals as goal
use Rattle.plir_core.proofs.Moves.{op_in, op_loose, op_point_in, op_put_at}

pub put-requires-clause-child_in : goal.put-requires-clause-child_in
put-requires-clause-child_in g c = op_in c.self.view_is c.self.invariant c.args.op c.requires.live

pub put-requires-clause-point_in : goal.put-requires-clause-point_in
put-requires-clause-point_in g c = op_point_in c.self.view_is c.self.invariant c.args.op c.args.at
    c.requires

pub put-requires-clause-loose : goal.put-requires-clause-loose
put-requires-clause-loose g c = op_loose c.self.view_is c.self.invariant c.args.op c.args.at
    c.requires

pub invariant_of-self : goal.invariant_of-self
invariant_of-self g c =
    op_put_at c.self.view_is c.self.invariant c.args.op c.args.at _ c.requires c.put.ensures.after
    c.put.ensures.agreed

pub returns-clause-stored : goal.returns-clause-stored
returns-clause-stored g c = invariant_of-self g c
