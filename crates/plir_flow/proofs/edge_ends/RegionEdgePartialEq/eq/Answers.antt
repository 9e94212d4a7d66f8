use Rattle.std.proofs.Common.{rules, ◌≡◌, IsTrue, false, true, ap, sym, ◌∙◌}
use Rattle.std.specs.Bool.{one_answer}
use Rattle.plir_flow.specs.EdgeEquality.{same_edge, edge-exact}
use Rattle.plir_flow.proofs.edge_ends.RegionEdgePartialEq.eq.Goals as goal

pub returns-then-are_same_flows : goal.returns-then-are_same_flows
returns-then-are_same_flows c =
    let d = c.args.self.now in
    let e = c.args.other.now in
    let from : d.from ≡ e.from = search rules in
    let to : d.to ≡ e.to = search rules in
    let flows : d.flows ≡ e.flows = search rules in
    let reads : IsTrue c.are_same_reads.result → d.reads ≡ e.reads = search rules in
    let back : d.reads ≡ e.reads → IsTrue c.are_same_reads.result = search rules in
    one_answer c.are_same_reads.result (same_edge d e) (
      λ h. (let r = reads h in λ i. record { from = from i; to = to i; flows = flows i; reads = r i }),
      λ q. back (ap (λ z. z.reads) q),
    ) (edge-exact d e)

pub returns-else-are_same_flows : goal.returns-else-are_same_flows
returns-else-are_same_flows c =
    let d = c.args.self.now in
    let e = c.args.other.now in
    let back : d.flows ≡ e.flows → IsTrue c.are_same_flows.result = search rules in
    let wrong : false ≡ true → ⊥ = λ z. cc in
    one_answer c.are_same_flows.result (same_edge d e)
    (λ h. absurd (wrong (sym c.if-are_same_flows.false ∙ h)), λ q. back (ap (λ z. z.flows) q)) (edge-exact d e)
