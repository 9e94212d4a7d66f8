use Rattle.plir_core.proofs.Leaves.{node-cases}
use Rattle.plir_core.proofs.laws.nodes_are_told_apart.Goals as goal

pub returns : goal.returns
returns c a b = node-cases a b
