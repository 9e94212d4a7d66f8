use Rattle.std.proofs.Common.{subst, sym}
use Rattle.plir_flow.specs.RegionEdges.{IsTo, IsEdgeLive, AreEdgesLive}
use Rattle.plir_flow.proofs.TakenLists.{those-live}
use Rattle.plir_flow.proofs.region_branches.RegionBranchOpInterface.edges_to.Goals as goal

pub returns-clause-live : goal.returns-clause-live
returns-clause-live g c =
    let all =
    subst (AreEdgesLive c.args.ctx.now) (sym c.in_ok-region_edges.ensures.value)
    c.in_ok-region_edges.ensures.live in
    those-live (IsTo c.args.successor) (IsEdgeLive c.args.ctx.now) c.in_ok-region_edges.field-0.items
    c.keep_to.result.items all c.keep_to.ensures
