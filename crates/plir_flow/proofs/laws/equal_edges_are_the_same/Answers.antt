use Rattle.plir_flow.specs.EdgeEquality.{edge-exact}
use Rattle.plir_flow.proofs.laws.equal_edges_are_the_same.Goals as goal

pub returns : goal.returns
returns c = edge-exact
