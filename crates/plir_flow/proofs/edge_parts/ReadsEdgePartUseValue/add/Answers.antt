use Rattle.std.proofs.Common.{ap}
use Rattle.std.proofs.lemmas.Result.{on_ok_weaker}
use Rattle.plir_flow.specs.RegionEdges.{reads_on}
use Rattle.plir_flow.proofs.edge_parts.ReadsEdgePartUseValue.add.Goals as goal

pub returns : goal.returns
returns c =
    on_ok_weaker c.add_all.result
    (λ more xs w. rw (← ap reads_on c.edge.view_is, ← c.deref.ensures.value) (more xs w)) c.add_all.ensures
