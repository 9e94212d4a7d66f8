use Rattle.std.proofs.Common.{◌≡◌, ◌∷◌, true, false, sym, ap, ◌∙◌}
use Rattle.std.specs.List.{list_any}
use Rattle.plir_data.specs.AttrSeen.{attr_view}
use Rattle.plir_data.specs.DictSeen.{pairs_view}
use Rattle.plir_data.specs.Dictionary.{is_key}
use Rattle.plir_roundtrip.specs.ReadableParts.{keys_with}
use Rattle.plir_roundtrip.proofs.Asked.{key_passed, key_failed}
use Rattle.plir_roundtrip.proofs.entries.holds_only.Goals as goal

pub entries-preserved : goal.entries-preserved
entries-preserved g c =
    let keys = keys_with c.args.has_value in
    let left = pairs_view c.next.new.self in
    let k = c.in-Some.key.now in
    let v = attr_view c.in-Some._value.now in
    let step : pairs_view c.entries.key-iterator ≡ (k, v) ∷ left = ap pairs_view c.in-Some.ensures.steps in
    let passed : c.is_key_expected.result ≡ true = cc in
    let among : list_any (λ z. is_key k z) keys ≡ true =
    ap (λ w. list_any (λ z. is_key w z) keys) (sym c.as_str.ensures.text) ∙ sym c.is_key_expected.ensures
    ∙ passed in
    key_passed keys _ _ left (k, v) step among c.entries.invariant

pub returns-then-not-is_key_expected : goal.returns-then-not-is_key_expected
returns-then-not-is_key_expected g c =
    let keys = keys_with c.args.has_value in
    let left = pairs_view c.next.new.self in
    let k = c.in-Some.key.now in
    let v = attr_view c.in-Some._value.now in
    let step : pairs_view c.entries.key-iterator ≡ (k, v) ∷ left = ap pairs_view c.in-Some.ensures.steps in
    let failed : c.is_key_expected.result ≡ false = cc in
    let other : list_any (λ z. is_key k z) keys ≡ false =
    ap (λ w. list_any (λ z. is_key w z) keys) (sym c.as_str.ensures.text) ∙ sym c.is_key_expected.ensures
    ∙ failed in (
      λ h. absurd (let f : ⊥ = cc in f),
      λ only. absurd (key_failed keys _ _ left (k, v) step other c.entries.invariant only),
    )
