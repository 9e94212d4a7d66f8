use Rattle.std.proofs.Common.{ap}
use Rattle.plir_flow.specs.RegionEdges.{regions_on}
use Rattle.plir_flow.proofs.edge_parts.RegionsEdgePartPtrRegion.add.Goals as goal

pub returns-in_ok-add : goal.returns-in_ok-add
returns-in_ok-add c = λ rs w. rw (← ap regions_on c.edge.view_is, c.in-Region.is) (c.in_ok-add.ensures.once rs w)
