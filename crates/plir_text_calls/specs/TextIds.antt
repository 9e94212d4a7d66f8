-- An id names no kind but one that has it, and the id of a kind names that kind, if it names any.
use Rattle.std.proofs.Common.{◌≡◌, ℕ, List, Some, codes, refl, sym, ap, ◌∙◌, inl, inr}
use Rattle.std.specs.Prelude.{IsTrue, is_some}
use Rattle.std.specs.Str.{bytes_eq}
use Rattle.std.proofs.lemmas.Bool.{false≢true}
use Rattle.std.proofs.lemmas.Slice.Eq.{bytes_eq-Decides}
use Rattle.std.proofs.lemmas.Option.{same_Some, none-some}
use Rattle.plir_attr_text.specs.laws.StepLaws.{chosen}
use Rattle.plir_text_calls.specs.declared.roundtrip.text_set.TextKind.{TextKind}
use Rattle.plir_text_calls.specs.declared.roundtrip.text_set.TextKind.TheVariants.{Plain, Closed, Pointless, Unfound}
use Rattle.plir_text_calls.specs.declared.roundtrip.text_set.TextKind.TheVariants.{Builtin}
use Rattle.plir_text_calls.specs.TextKinds.{id_of, kind_of}

pub has_its_id : (i : List ℕ) (k : TextKind) → kind_of i ≡ Some k → id_of k ≡ i
has_its_id i k e = elim (chosen (bytes_eq i (codes "sample.plain")) _ _ _ e) [
  | inl h ↦ sym ((bytes_eq-Decides i (codes "sample.plain")).0 h.0 ∙ ap id_of (same_Some Plain k h.1))
  | inr f ↦ elim (chosen (bytes_eq i (codes "sample.closed")) _ _ _ f.1) [
    | inl h ↦ sym ((bytes_eq-Decides i (codes "sample.closed")).0 h.0 ∙ ap id_of (same_Some Closed k h.1))
    | inr f ↦ elim (chosen (bytes_eq i (codes "pointless")) _ _ _ f.1) [
      | inl h ↦ sym ((bytes_eq-Decides i (codes "pointless")).0 h.0 ∙ ap id_of (same_Some Pointless k h.1))
      | inr f ↦ elim (chosen (bytes_eq i (codes "builtin.func")) _ _ _ f.1) [
        | inl h ↦ sym ((bytes_eq-Decides i (codes "builtin.func")).0 h.0 ∙ ap id_of (same_Some Builtin k h.1))
        | inr h ↦ absurd (none-some k h.1)
      ]
    ]
  ]
]

pub finds_it : (k : TextKind) → IsTrue (is_some (kind_of (id_of k))) → kind_of (id_of k) ≡ Some k
finds_it Plain t = refl
finds_it Closed t = refl
finds_it Pointless t = refl
finds_it Unfound t = absurd (false≢true t)
finds_it Builtin t = refl
