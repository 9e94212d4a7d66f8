use Rattle.std.proofs.Common.{subst, sym, ◌∙◌}
use Rattle.std.proofs.lemmas.Result.{IfOk-weaker}
use Rattle.plir_flow.specs.RegionEdges.{AreEdgesLive}
use Rattle.plir_flow.proofs.LiveEdges.{reached-live}
use Rattle.plir_flow.proofs.region_branches.RegionBranchOpInterface.reachable_regions.Goals as goal

pub returns-clause-live : goal.returns-clause-live
returns-clause-live g c =
    let s = c.args.ctx.now in
    let all =
    subst (AreEdgesLive s) (sym (c.deref.ensures.value ∙ c.in_ok-edges.ensures.value)) c.in_ok-edges.ensures.live in
    IfOk-weaker c.reachable.result _ _ (λ rs w. reached-live s c.deref.result.now c.args.region rs.items all w)
    c.reachable.ensures.all
