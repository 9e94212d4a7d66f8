use Rattle.std.proofs.Common.{rules, ◌≡◌, ◌<◌, ◌∙◌, ap, refl, sym, subst, length, cond, Some, None}
use Rattle.std.specs.HashMap.{get}
use Rattle.std.specs.Option.{option_eq}
use Rattle.plir_flow.specs.Hops.{same_region}
use Rattle.std.proofs.lemmas.Option.{slice_get-get_or, slice_get_within}
use Rattle.std.proofs.lemmas.Result.{IfOk-weaker}
use Rattle.plir_flow.specs.RegionEdges.{EdgeView}
use Rattle.plir_flow.specs.EdgeVerdicts.{target_region, first_place}
use Rattle.plir_flow.proofs.EdgeRules.{firsts-kept, firsts-broken, firsts-new, target-same}
use Rattle.plir_flow.proofs.receiver_sets.keeps_receivers.Goals as goal

pub bounds-edges-first : goal.bounds-edges-first
bounds-edges-first c =
    let r =
    c.requires.firsts.heads c.edge.inside.to c.in-Some.first
    (ap (get (option_eq same_region) c.args.firsts.now) (sym c.region_of-target.ensures)
    ∙ sym (c.in-Some.ensures ∙ c.get.ensures.value)) in
    slice_get_within c.args.edges.now c.in-Some.first r.0 r.1.0

pub offset_bounds-edges-first : goal.offset_bounds-edges-first
offset_bounds-edges-first c =
    let r =
    c.requires.firsts.heads c.edge.inside.to c.in-Some.first
    (ap (get (option_eq same_region) c.args.firsts.now) (sym c.region_of-target.ensures)
    ∙ sym (c.in-Some.ensures ∙ c.get.ensures.value)) in
    let below : c.in-Some.first < length c.args.edges.now =
    slice_get_within c.args.edges.now c.in-Some.first r.0 r.1.0 in
    search rules

pub returns-in-Some : goal.returns-in-Some
returns-in-Some c =
    let es = c.args.edges.now in
    let head = first_place c.args.firsts.now in
    let first = c.in-Some.first in
    let reported =
    ap (get (option_eq same_region) c.args.firsts.now) (sym c.region_of-target.ensures)
    ∙ sym (c.in-Some.ensures ∙ c.get.ensures.value) in
    let r = c.requires.firsts.heads c.edge.inside.to first reported in
    let edge = c.index-edges-place.result in
    let here = slice_get-get_or es c.args.place edge c.requires.below ∙ ap (λ x. Some x) (sym c.index-edges-place.is) in
    let d = c.index-edges-first.result in
    let at =
    slice_get-get_or es first d (slice_get_within es first r.0 r.1.0)
    ∙ ap (λ x. Some x) (sym c.index-edges-first.is) in
    let is = subst (λ (e : EdgeView). head e.to ≡ Some first) c.edge.view_is reported in
    IfOk-weaker c.have_same_receivers.result _ _ (λ b w. (
      λ t. firsts-kept es c.args.place head c.requires.firsts edge here first d is at (w.0 t),
      λ n. firsts-broken es c.args.place head c.requires.firsts edge here first d is at (λ same. n (w.1 same)),
    )) c.have_same_receivers.ensures

pub returns-in_ok-insert-in-None : goal.returns-in_ok-insert-in-None
returns-in_ok-insert-in-None c = (
  λ is.
      let es = c.args.edges.now in
      let head = first_place c.args.firsts.now in
      let edge = c.index-edges-place.result in
      let here =
      slice_get-get_or es c.args.place edge c.requires.below ∙ ap (λ x. Some x) (sym c.index-edges-place.is) in
      let absent =
      subst (λ (e : EdgeView). head e.to ≡ None) c.edge.view_is
      (ap (get (option_eq same_region) c.args.firsts.now) (sym c.region_of-target.ensures)
      ∙ sym (c.in-None.ensures ∙ c.get.ensures.value)) in
      firsts-new es c.args.place head c.requires.firsts edge here absent (first_place c.insert.new.self)
      (λ t. c.in_ok-insert-in-None.ensures.updates.0 (target_region t)
      ∙ ap (λ k. cond (option_eq same_region k (target_region t)) (Some c.args.place) (head t))
      (c.region_of-target.ensures ∙ ap (λ (e : EdgeView). target_region e.to) c.edge.view_is)
      ∙ ap (λ b. cond b (Some c.args.place) (head t)) (target-same edge.to t)),
  λ n. absurd (n refl),
)
