use Rattle.std.proofs.Common.{◌≡◌, take}
use Rattle.std.specs.List.{flat_map}
use Rattle.plir_flow.specs.RegionEdges.{flows_on}
use Rattle.plir_flow.proofs.flow_lists.flows.Given as goal

abbrev pub invariant-loop-edge : goal.invariant-loop-edge
invariant-loop-edge l = l.all.items ≡ flat_map flows_on (take l.edge-index l.edges)
