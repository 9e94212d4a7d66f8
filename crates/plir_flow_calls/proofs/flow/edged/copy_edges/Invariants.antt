use Rattle.std.proofs.Common.{◌≡◌, take}
use Rattle.plir_flow_calls.proofs.flow.edged.copy_edges.Given as goal

abbrev pub invariant-loop-edge : goal.invariant-loop-edge
invariant-loop-edge l = l.copies.items ≡ take l.edge-index l.edges
