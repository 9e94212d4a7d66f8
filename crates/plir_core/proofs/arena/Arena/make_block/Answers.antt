use Rattle.std.proofs.Common.{arith, ap}
use Rattle.plir_core.specs.Nodes.{num_nodes}
use Rattle.plir_core.proofs.arena.Arena.make_block.Goals as goal
use Rattle.plir_core.proofs.Changes.{IsStored-new_block}

pub invariant_of-self-2 : goal.invariant_of-self-2
invariant_of-self-2 g c =
    IsStored-new_block _ c.self.invariant _ _ _ _ c.in_ok-slot.ensures.filled c.in_ok-slot.ensures.beside
    c.in_ok-slot.ensures.below c.in_ok-slot.ensures.beside_agreed c.in_ok-slot.ensures.below_agreed
    (omega (arith, c.self.invariant.within, c.num_live.ensures.value, ap num_nodes c.self.view_is))

pub returns-clause-stored : goal.returns-clause-stored
returns-clause-stored g c = invariant_of-self-2 g c
