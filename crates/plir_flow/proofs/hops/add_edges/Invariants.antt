use Rattle.std.proofs.Common.{◌↔◌, take}
use Rattle.std.specs.HashMap.{get}
use Rattle.plir_core.specs.declared.ptr.Ptr.{Ptr}
use Rattle.plir_core.specs.declared.ptr.Region.{Region as RegionKind}
use Rattle.plir_flow.specs.RegionEdges.{IsStep}
use Rattle.plir_flow.specs.Hops.{IsHop, AreLinked, AreHeads, same_region}
use Rattle.plir_flow.proofs.hops.add_edges.Given as goal

abbrev pub invariant-loop-edge : goal.invariant-loop-edge
invariant-loop-edge g l =
    AreLinked l.hops.items × AreHeads l.hops.items (get same_region l.heads)
    × ((a b : Ptr RegionKind) → IsHop l.hops.items a b ↔ IsStep l.ctx (take l.edge-index l.edges) a b)
