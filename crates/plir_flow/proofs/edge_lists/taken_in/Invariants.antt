use Rattle.std.proofs.Common.{take}
use Rattle.plir_flow.specs.Taken.{AreTakenOnce}
use Rattle.plir_flow.specs.RegionEdges.{IsFromRegion}
use Rattle.plir_flow.proofs.edge_lists.taken_in.Given as goal

abbrev pub invariant-loop-edge : goal.invariant-loop-edge
invariant-loop-edge g l =
    AreTakenOnce (IsFromRegion l.ctx l.region) g.P.EdgePart.on (take l.edge-index l.edges) l.seen
