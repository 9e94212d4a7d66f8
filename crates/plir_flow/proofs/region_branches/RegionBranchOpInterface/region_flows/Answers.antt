use Rattle.std.proofs.Common.{subst, sym, ◌∙◌}
use Rattle.std.specs.Prelude.{All}
use Rattle.std.proofs.lemmas.Result.{IfOk-weaker}
use Rattle.plir_flow.specs.RegionEdges.{flows_on, IsFlowLive, IsEdgeLive, AreEdgesLive}
use Rattle.plir_flow.proofs.TakenLists.{joined-all}
use Rattle.plir_flow.proofs.LiveEdges.{flows-live}
use Rattle.plir_flow.proofs.region_branches.RegionBranchOpInterface.region_flows.Goals as goal

pub returns-clause-live : goal.returns-clause-live
returns-clause-live g c =
    let s = c.args.ctx.now in
    let all =
    subst (AreEdgesLive s) (sym (c.deref.ensures.value ∙ c.in_ok-edges.ensures.value)) c.in_ok-edges.ensures.live in
    IfOk-weaker c.flows.result _ _ (λ fs e. subst (All (IsFlowLive s)) (sym e)
    (joined-all flows_on (IsEdgeLive s) (IsFlowLive s) (flows-live s) c.deref.result.now all)) c.flows.ensures
