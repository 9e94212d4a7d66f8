use Rattle.plir_core.proofs.arena.Arena.block_mut.Goals as goal
use Rattle.plir_core.proofs.Moves.{block_held}

pub invariant_of-self-lent : goal.invariant_of-self-lent
invariant_of-self-lent g c = λ v. block_held c.self.view_is c.self.invariant c.args.block v c.requires
