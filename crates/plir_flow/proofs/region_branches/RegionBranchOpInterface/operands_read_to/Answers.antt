use Rattle.std.proofs.Common.{subst, sym}
use Rattle.std.proofs.lemmas.Result.{IfOk-weaker}
use Rattle.plir_flow.specs.RegionEdges.{reads_on, IsEdgeLive, AreEdgesLive, IsUseLive}
use Rattle.plir_flow.proofs.TakenLists.{once-all}
use Rattle.plir_flow.proofs.LiveEdges.{reads-live}
use Rattle.plir_flow.proofs.region_branches.RegionBranchOpInterface.operands_read_to.Goals as goal

pub returns-clause-live : goal.returns-clause-live
returns-clause-live g c =
    let s = c.args.ctx.now in
    let all = subst (AreEdgesLive s) (sym c.deref.ensures.value) c.in_ok-edges.ensures.live in
    IfOk-weaker c.taken.result _ _
    (λ us o. once-all reads_on (IsEdgeLive s) (IsUseLive s) (reads-live s) c.deref.result.now us.items all o)
    c.taken.ensures
