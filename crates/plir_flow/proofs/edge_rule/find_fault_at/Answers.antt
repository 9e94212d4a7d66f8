use Rattle.std.proofs.Common.{◌∙◌, ap, sym, Some}
use Rattle.std.proofs.lemmas.Option.{slice_get-get_or}
use Rattle.std.proofs.lemmas.Result.{IfOk-weaker}
use Rattle.plir_store.specs.MemberLaws.{Has-at}
use Rattle.plir_flow.proofs.EdgeRules.{edge-reported}
use Rattle.plir_flow.proofs.edge_rule.find_fault_at.Goals as goal

pub returns-clause-broken : goal.returns-clause-broken
returns-clause-broken g c =
    let es = c.args.edges.now in
    let e = c.index-edges-place.result in
    let here =
    Has-at es c.args.place e
    (slice_get-get_or es c.args.place e c.requires.below ∙ ap (λ x. Some x) (sym c.index-edges-place.is)) in
    IfOk-weaker c.find_edge_fault.result _ _
    (λ f reported. edge-reported g.D.OpSet.is_terminator c.args.ctx.now c.args.op es e f here reported)
    c.find_edge_fault.ensures.reported
