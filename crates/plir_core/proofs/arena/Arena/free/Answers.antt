use Rattle.plir_core.proofs.arena.Arena.free.Goals as goal
use Rattle.plir_core.proofs.Erasures.{op_freed, region_freed, block_freed}

pub invariant_of-self : goal.invariant_of-self
invariant_of-self g c =
    op_freed _ c.args.self.now c.self.view_is c.self.invariant c.args.node c.requires.live c.requires.leaf
    c.in-Operation.op _ _ c.in-Operation.is c.remove-in-Operation.ensures.after c.remove.ensures.after

pub invariant_of-self-in-Region : goal.invariant_of-self-in-Region
invariant_of-self-in-Region g c =
    region_freed _ c.args.self.now c.self.view_is c.self.invariant c.args.node c.requires.live c.requires.leaf
    c.in-Region.region _ _ c.in-Region.is c.remove-in-Region-2.ensures.after c.remove-in-Region.ensures.after

pub invariant_of-self-in-BasicBlock : goal.invariant_of-self-in-BasicBlock
invariant_of-self-in-BasicBlock g c =
    block_freed _ c.args.self.now c.self.view_is c.self.invariant c.args.node c.requires.live c.requires.leaf
    c.in-BasicBlock.block _ _ c.in-BasicBlock.is c.remove-in-BasicBlock-2.ensures.after
    c.remove-in-BasicBlock.ensures.after

pub returns-in-Operation-clause-stored : goal.returns-in-Operation-clause-stored
returns-in-Operation-clause-stored g c = invariant_of-self g c

pub returns-in-Region-clause-stored : goal.returns-in-Region-clause-stored
returns-in-Region-clause-stored g c = invariant_of-self-in-Region g c

pub returns-in-BasicBlock-clause-stored : goal.returns-in-BasicBlock-clause-stored
returns-in-BasicBlock-clause-stored g c = invariant_of-self-in-BasicBlock g c
