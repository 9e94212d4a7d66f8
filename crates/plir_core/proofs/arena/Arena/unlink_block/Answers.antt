use Rattle.plir_core.proofs.arena.Arena.unlink_block.Goals as goal
use Rattle.plir_core.proofs.Moves.{block_out}

pub invariant_of-self : goal.invariant_of-self
invariant_of-self g c =
    block_out c.self.view_is c.self.invariant c.args.block _ c.requires c.remove.ensures.after c.remove.ensures.agreed

pub returns-clause-stored : goal.returns-clause-stored
returns-clause-stored g c = invariant_of-self g c
