use Rattle.std.proofs.Common.{subst, sym}
use Rattle.std.specs.Prelude.{All}
use Rattle.std.proofs.lemmas.Result.{IfOk-weaker}
use Rattle.plir_flow.specs.RegionEdges.{Flow, IsInto, IsFlowLive, IsUseLive}
use Rattle.plir_flow.proofs.TakenLists.{those-live, mapped-all}
use Rattle.plir_flow.proofs.region_branches.RegionBranchOpInterface.incoming_operands.Goals as goal

pub returns-clause-live : goal.returns-clause-live
returns-clause-live g c =
    let s = c.args.ctx.now in
    let kept =
    those-live (IsInto c.args.receiver) (IsFlowLive s) c.in_ok-region_flows.field-0.items
    c.keep_into-flows.result.items c.in_ok-region_flows.ensures.live c.keep_into-flows.ensures in
    let all = subst (All (IsFlowLive s)) (sym c.deref.ensures.value) kept in
    IfOk-weaker c.operands.result _ _ (λ us e. subst (All (IsUseLive s)) (sym e)
    (mapped-all (λ (f : Flow). f.0) (IsFlowLive s) (IsUseLive s) (λ f l. l.0) c.deref.result.now all))
    c.operands.ensures
