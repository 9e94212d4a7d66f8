use Rattle.std.proofs.Common.{◌≡◌, ◌∷◌, ◌<◌, true, Some, refl, sym, ap, subst}
use Rattle.std.proofs.lemmas.List.Elements.{All-head, All-tail}
use Rattle.plir_data.specs.AttrLive.{IsAttrLive, HandlesLive}
use Rattle.plir_data.specs.AttrSeen.{attr_view}
use Rattle.plir_data.specs.DictSeen.{pairs_view}
use Rattle.plir_roundtrip.specs.WrittenLevels.{entry_level, shown_levels}
use Rattle.plir_roundtrip.proofs.Asked.{low_passed, low_failed}
use Rattle.plir_roundtrip.proofs.PartLevels.{first_entry}
use Rattle.plir_roundtrip.proofs.part_levels.are_shown_below.Goals as goal

pub is_entry_below-requires-clause-live : goal.is_entry_below-requires-clause-live
is_entry_below-requires-clause-live g c =
    let own = g.D.OpSet.attr_handles in
    let types = c.args.ctx.now.types in
    let left = pairs_view c.next.new.self in
    let k = c.in-Some.key.now in
    let v = attr_view c.in-Some.value.now in
    let step : pairs_view c.entries.key-iterator ≡ (k, v) ∷ left = ap pairs_view c.in-Some.ensures.steps in
    All-head (λ x. IsAttrLive own types x.1) (k, v) left (subst (HandlesLive own types) step c.entries.invariant.live)

pub entries-preserved : goal.entries-preserved
entries-preserved g c =
    let o = g.D.OpSet in
    let own = g.D.OpSet.attr_handles in
    let types = c.args.ctx.now.types in
    let kind = Some c.args.kind in
    let left = pairs_view c.next.new.self in
    let k = c.in-Some.key.now in
    let v = attr_view c.in-Some.value.now in
    let step : pairs_view c.entries.key-iterator ≡ (k, v) ∷ left = ap pairs_view c.in-Some.ensures.steps in
    let passed : c.is_entry_below.result ≡ true = cc in
    let low : entry_level o types kind (k, v) < c.args.left =
    subst (λ w. entry_level o types kind (w, v) < c.args.left) c.as_str.ensures.text
    (c.is_entry_below.ensures.0 passed) in
    record {
      low = low_passed _ _ _ _ c.args.left (first_entry o types kind _ left (k, v) step) low c.entries.invariant.low;
      live =
          All-tail (λ x. IsAttrLive own types x.1) (k, v) left
          (subst (HandlesLive own types) step c.entries.invariant.live);
    }

pub returns-then-not-is_entry_below : goal.returns-then-not-is_entry_below
returns-then-not-is_entry_below g c =
    let o = g.D.OpSet in
    let types = c.args.ctx.now.types in
    let kind = Some c.args.kind in
    let left = pairs_view c.next.new.self in
    let k = c.in-Some.key.now in
    let v = attr_view c.in-Some.value.now in
    let step : pairs_view c.entries.key-iterator ≡ (k, v) ∷ left = ap pairs_view c.in-Some.ensures.steps in (
      λ h. absurd (let f : ⊥ = cc in f),
      λ all. absurd (low_failed _ _ _ _ c.args.left (first_entry o types kind _ left (k, v) step) (λ h.
          let passed : c.is_entry_below.result ≡ true =
          c.is_entry_below.ensures.1
          (subst (λ w. entry_level o types kind (w, v) < c.args.left) (sym c.as_str.ensures.text) h) in
          let f : ⊥ = cc in f) c.entries.invariant.low all),
    )

pub returns : goal.returns
returns g c = (
  λ t. c.entries.invariant.low.0 (subst
      (λ es. shown_levels g.D.OpSet c.args.ctx.now.types (Some c.args.kind) es < c.args.left)
      (sym (ap pairs_view c.in-None.ensures.steps.0)) c.requires.some),
  λ h. refl,
)
