use Rattle.std.proofs.Common.{rules, All, IsTrue, false}
use Rattle.plir_core.specs.ContextView.{IsValueLive}
use Rattle.plir_flow.specs.RegionEdges.{IsUseLive}
use Rattle.plir_flow_calls.proofs.flow.edged.are_flows_live.Goals as goal

pub returns-then-not-are_sources_live : goal.returns-then-not-are_sources_live
returns-then-not-are_sources_live g c =
    let wrong : IsTrue false → ⊥ = search rules in
    let missing : All (λ f. IsUseLive c.args.ctx.now f.0) c.args.flows.now → ⊥ = search rules in
    (λ h. absurd (wrong h), λ all. absurd (missing (λ k d b. (all k d b).0)))

pub returns : goal.returns
returns g c =
    let sources : All (λ f. IsUseLive c.args.ctx.now f.0) c.args.flows.now = search rules in
    let receivers : IsTrue c.are_receivers_live.result → All (λ f. IsValueLive c.args.ctx.now f.1) c.args.flows.now =
    search rules in
    let found : All (λ f. IsValueLive c.args.ctx.now f.1) c.args.flows.now → IsTrue c.are_receivers_live.result =
    search rules in
    (λ h. λ k d b. (sources k d b, receivers h k d b), λ all. found (λ k d b. (all k d b).1))
