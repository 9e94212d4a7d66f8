use Rattle.std.proofs.Common.{rules, ◌≡◌, All, IsTrue, false, sym, subst}
use Rattle.plir_flow.specs.RegionEdges.{IsFlowLive, IsPointLive, IsSuccessorLive, IsUseLive}
use Rattle.plir_flow_calls.proofs.flow.edged.is_edge_live.Goals as goal

pub returns-then-not-are_flows_live : goal.returns-then-not-are_flows_live
returns-then-not-are_flows_live g c =
    let wrong : IsTrue false → ⊥ = search rules in
    let refused : IsTrue c.are_flows_live.result → ⊥ = search rules in
    let same : c.as_slice.result.now ≡ c.args.edge.now.flows = search rules in (
      λ h. absurd (wrong h),
      λ live.
          absurd (refused (c.are_flows_live.ensures.1 (subst (All (IsFlowLive c.args.ctx.now)) (sym same) live.flows))),
    )

pub returns : goal.returns
returns g c =
    let s = c.args.ctx.now in
    let from : IsPointLive s c.args.edge.now.from = search rules in
    let to : IsSuccessorLive s c.args.edge.now.to = search rules in
    let found : IsTrue c.are_flows_live.result = search rules in
    let same : c.as_slice.result.now ≡ c.args.edge.now.flows = search rules in
    let same-2 : c.as_slice-2.result.now ≡ c.args.edge.now.reads = search rules in
    let flows = subst (All (IsFlowLive s)) same (c.are_flows_live.ensures.0 found) in (
      λ h. record {
        from = from;
        to = to;
        flows = flows;
        reads = subst (All (IsUseLive s)) same-2 (c.are_reads_live.ensures.0 h);
      },
      λ live. c.are_reads_live.ensures.1 (subst (All (IsUseLive s)) (sym same-2) live.reads),
    )
