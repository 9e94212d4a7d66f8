use Rattle.std.proofs.Common.{ap, map}
use Rattle.std.proofs.lemmas.Result.{on_ok_weaker}
use Rattle.plir_flow.specs.RegionEdges.{receivers_on, Flow}
use Rattle.plir_flow.proofs.edge_parts.ReceiversEdgePartValue.add.Goals as goal

pub returns : goal.returns
returns c =
    on_ok_weaker c.add_receivers.result
    (λ more vs w. rw (← ap receivers_on c.edge.view_is, ← ap (map (λ (f : Flow). f.1)) c.deref.ensures.value) (more vs w))
    c.add_receivers.ensures
