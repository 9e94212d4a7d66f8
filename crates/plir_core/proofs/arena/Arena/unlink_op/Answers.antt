use Rattle.plir_core.proofs.arena.Arena.unlink_op.Goals as goal
use Rattle.plir_core.proofs.Moves.{op_out}

pub invariant_of-self : goal.invariant_of-self
invariant_of-self g c =
    op_out c.self.view_is c.self.invariant c.args.op _ c.requires c.remove.ensures.after c.remove.ensures.agreed

pub returns-clause-stored : goal.returns-clause-stored
returns-clause-stored g c = invariant_of-self g c
