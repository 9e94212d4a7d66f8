use Rattle.std.proofs.Common.{◌≡◌, take, map}
use Rattle.std.specs.Prelude.{All}
use Rattle.plir_store.specs.Members.{Distinct}
use Rattle.plir_flow.specs.RegionEdges.{Flow}
use Rattle.plir_flow.specs.RegionRule.{IsFlowRight}
use Rattle.plir_flow.proofs.edge_rule.find_flows_fault.Given as goal

abbrev pub invariant-loop-flow : goal.invariant-loop-flow
invariant-loop-flow g l =
    let fs = take l.flow-index l.edge.flows in
    (l.received ≡ map (λ (f : Flow). f.1) fs) × All (IsFlowRight l.ctx l.op l.edge.from l.edge.to) fs ×
    Distinct l.received
