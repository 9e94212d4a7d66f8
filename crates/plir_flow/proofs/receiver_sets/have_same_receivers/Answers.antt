use Rattle.std.proofs.Common.{◌≡◌, ◌∙◌, ap, true, false}
use Rattle.std.proofs.Math.Logic.Iff
use Rattle.std.proofs.lemmas.Result.{IfOk-weaker}
use Rattle.plir_flow.specs.RegionEdges.{flows_on}
use Rattle.plir_flow.proofs.EdgeRules.{within-at, same-if, same-not}
use Rattle.plir_flow.proofs.receiver_sets.have_same_receivers.Goals as goal

pub returns-then-not-branch : goal.returns-then-not-branch
returns-then-not-branch c =
    let d = c.args.first.now in
    let e = c.args.other.now in
    let b = c.in_ok-receive_among.field-0 in
    let fs = c.deref.ensures.value ∙ ap flows_on c.first.view_is in
    let os = c.deref-2.ensures.value ∙ ap flows_on c.other.view_is in
    let reported = within-at b _ _ _ _ fs os c.in_ok-receive_among.ensures in (
      λ h. absurd (let f : false ≡ true = h in cc),
      λ same. absurd (same-not d e (λ w. let t : b ≡ true = reported.1 w in cc) same),
    )

pub returns : goal.returns
returns c =
    let d = c.args.first.now in
    let e = c.args.other.now in
    let b = c.in_ok-receive_among.field-0 in
    let fs = c.deref.ensures.value ∙ ap flows_on c.first.view_is in
    let os = c.deref-2.ensures.value ∙ ap flows_on c.other.view_is in
    let reported = within-at b _ _ _ _ fs os c.in_ok-receive_among.ensures in
    let is : b ≡ true = cc in
    let gs = c.deref-3.ensures.value ∙ ap flows_on c.other.view_is in
    let ps = c.deref-4.ensures.value ∙ ap flows_on c.first.view_is in
    IfOk-weaker c.receive_among-2.result _ _
    (λ v w. Iff.trans (within-at v _ _ _ _ gs ps w) (same-if d e (reported.0 is))) c.receive_among-2.ensures
