use Rattle.plir_core.proofs.arena.Arena.op_mut.Goals as goal
use Rattle.plir_core.proofs.Moves.{op_held}

pub invariant_of-self-lent : goal.invariant_of-self-lent
invariant_of-self-lent g c = λ v. op_held c.self.view_is c.self.invariant c.args.op v c.requires
