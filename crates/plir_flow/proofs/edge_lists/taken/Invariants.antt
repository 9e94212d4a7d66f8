use Rattle.std.proofs.Common.{take}
use Rattle.std.specs.List.{flat_map}
use Rattle.plir_flow.specs.Taken.{IsOnceEach}
use Rattle.plir_flow.proofs.edge_lists.taken.Given as goal

abbrev pub invariant-loop-edge : goal.invariant-loop-edge
invariant-loop-edge g l = IsOnceEach (flat_map g.P.EdgePart.on (take l.edge-index l.edges)) l.seen
