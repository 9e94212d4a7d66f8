use Rattle.std.proofs.Common.{subst, sym}
use Rattle.std.proofs.lemmas.Result.{IfOk-weaker}
use Rattle.plir_core.specs.ContextView.{IsValueLive}
use Rattle.plir_flow.specs.RegionEdges.{receivers_on, IsEdgeLive, AreEdgesLive}
use Rattle.plir_flow.proofs.TakenLists.{once-all}
use Rattle.plir_flow.proofs.LiveEdges.{receivers-live}
use Rattle.plir_flow.proofs.region_branches.RegionBranchOpInterface.successor_receivers.Goals as goal

pub returns-clause-live : goal.returns-clause-live
returns-clause-live g c =
    let s = c.args.ctx.now in
    let all = subst (AreEdgesLive s) (sym c.deref.ensures.value) c.in_ok-edges.ensures.live in
    IfOk-weaker c.taken.result _ _ (λ us o.
    once-all receivers_on (IsEdgeLive s) (IsValueLive s) (receivers-live s) c.deref.result.now us.items all o)
    c.taken.ensures
