use Rattle.std.proofs.Common.{subst, sym}
use Rattle.plir_flow.specs.RegionEdges.{IsFrom, IsEdgeLive, AreEdgesLive}
use Rattle.plir_flow.proofs.TakenLists.{those-live}
use Rattle.plir_flow.proofs.region_branches.RegionBranchOpInterface.edges_from.Goals as goal

pub returns-clause-live : goal.returns-clause-live
returns-clause-live g c =
    let all =
    subst (AreEdgesLive c.args.ctx.now) (sym c.in_ok-region_edges.ensures.value)
    c.in_ok-region_edges.ensures.live in
    those-live (IsFrom c.args.point) (IsEdgeLive c.args.ctx.now) c.in_ok-region_edges.field-0.items
    c.keep_from.result.items all c.keep_from.ensures
