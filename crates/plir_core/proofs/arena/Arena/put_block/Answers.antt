use Rattle.plir_core.proofs.arena.Arena.put_block.Goals as goal
use Rattle.plir_core.proofs.Moves.{block_in, block_loose, block_point_in, block_put_at}

pub put-requires-clause-child_in : goal.put-requires-clause-child_in
put-requires-clause-child_in g c = block_in c.self.view_is c.self.invariant c.args.block c.requires.live

pub put-requires-clause-point_in : goal.put-requires-clause-point_in
put-requires-clause-point_in g c = block_point_in c.self.view_is c.self.invariant c.args.block c.args.at
    c.requires

pub put-requires-clause-loose : goal.put-requires-clause-loose
put-requires-clause-loose g c = block_loose c.self.view_is c.self.invariant c.args.block c.args.at
    c.requires

pub invariant_of-self : goal.invariant_of-self
invariant_of-self g c =
    block_put_at c.self.view_is c.self.invariant c.args.block c.args.at _ c.requires c.put.ensures.after
    c.put.ensures.agreed

pub returns-clause-stored : goal.returns-clause-stored
returns-clause-stored g c = invariant_of-self g c
