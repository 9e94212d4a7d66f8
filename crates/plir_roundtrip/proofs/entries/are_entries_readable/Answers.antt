use Rattle.std.proofs.Common.{◌≡◌, ◌∷◌, true, sym, ap, subst}
use Rattle.std.proofs.lemmas.List.Elements.{All-head, All-tail}
use Rattle.plir_data.specs.AttrLive.{IsAttrLive, HandlesLive}
use Rattle.plir_data.specs.AttrSeen.{attr_view}
use Rattle.plir_data.specs.DictSeen.{pairs_view}
use Rattle.plir_roundtrip.specs.Readable.{IsEntryReadable}
use Rattle.plir_roundtrip.proofs.Asked.{each_passed, each_failed}
use Rattle.plir_roundtrip.proofs.entries.are_entries_readable.Goals as goal

pub is_entry_readable-requires : goal.is_entry_readable-requires
is_entry_readable-requires g c =
    let own = g.D.OpSet.attr_handles in
    let types = c.args.ctx.now.types in
    let left = pairs_view c.next.new.self in
    let k = c.in-Some.key.now in
    let v = attr_view c.in-Some.value.now in
    let step : pairs_view c.entries.key-iterator ≡ (k, v) ∷ left = ap pairs_view c.in-Some.ensures.steps in
    All-head (λ x. IsAttrLive own types x.1) (k, v) left (subst (HandlesLive own types) step c.entries.invariant.live)

pub entries-preserved : goal.entries-preserved
entries-preserved g c =
    let own = g.D.OpSet.attr_handles in
    let types = c.args.ctx.now.types in
    let left = pairs_view c.next.new.self in
    let k = c.in-Some.key.now in
    let v = attr_view c.in-Some.value.now in
    let step : pairs_view c.entries.key-iterator ≡ (k, v) ∷ left = ap pairs_view c.in-Some.ensures.steps in
    let passed : c.is_entry_readable.result ≡ true = cc in
    let here : IsEntryReadable types k v =
    subst (λ w. IsEntryReadable types w v) c.as_str.ensures.text (c.is_entry_readable.ensures.0 passed) in
    record {
      readable =
          each_passed (λ e. IsEntryReadable types e.0 e.1) _ _ left (k, v) step here c.entries.invariant.readable;
      live =
          All-tail (λ x. IsAttrLive own types x.1) (k, v) left
          (subst (HandlesLive own types) step c.entries.invariant.live);
    }

pub returns-then-not-is_entry_readable-clause-value : goal.returns-then-not-is_entry_readable-clause-value
returns-then-not-is_entry_readable-clause-value g c =
    let types = c.args.ctx.now.types in
    let left = pairs_view c.next.new.self in
    let k = c.in-Some.key.now in
    let v = attr_view c.in-Some.value.now in
    let step : pairs_view c.entries.key-iterator ≡ (k, v) ∷ left = ap pairs_view c.in-Some.ensures.steps in (
      λ h. absurd (let f : ⊥ = cc in f),
      λ all. absurd (each_failed (λ e. IsEntryReadable types e.0 e.1) _ _ left (k, v) step (λ h.
          let passed : c.is_entry_readable.result ≡ true =
          c.is_entry_readable.ensures.1 (subst (λ w. IsEntryReadable types w v) (sym c.as_str.ensures.text) h) in
          let f : ⊥ = cc in f) c.entries.invariant.readable all),
    )
