-- An id names no kind but one that has it, and the id of a kind names that kind, if it names any.
use Rattle.std.proofs.Common.{◌≡◌, ℕ, List, Some, codes, refl, sym, ap, ◌∙◌, inl, inr}
use Rattle.std.specs.Prelude.{IsTrue, is_some}
use Rattle.std.specs.Str.{bytes_eq}
use Rattle.std.proofs.lemmas.Slice.Eq.{bytes_eq-Decides}
use Rattle.std.proofs.lemmas.Option.{same_Some, none-some}
use Rattle.plir_attr_text.specs.laws.StepLaws.{chosen}
use Rattle.plir_read_ir_tests.specs.declared.kinds.TestKind.{TestKind}
use Rattle.plir_read_ir_tests.specs.declared.kinds.TestKind.TheVariants.{Value, Branch, Open, Closed}
use Rattle.plir_read_ir_tests.specs.Kinds.{id_of, kind_of}

pub has_its_id : (i : List ℕ) (k : TestKind) → kind_of i ≡ Some k → id_of k ≡ i
has_its_id i k e = elim (chosen (bytes_eq i (codes "test.value")) _ _ _ e) [
  | inl h ↦ sym ((bytes_eq-Decides i (codes "test.value")).0 h.0 ∙ ap id_of (same_Some Value k h.1))
  | inr f ↦ elim (chosen (bytes_eq i (codes "test.branch")) _ _ _ f.1) [
    | inl h ↦ sym ((bytes_eq-Decides i (codes "test.branch")).0 h.0 ∙ ap id_of (same_Some Branch k h.1))
    | inr f ↦ elim (chosen (bytes_eq i (codes "test.open")) _ _ _ f.1) [
      | inl h ↦ sym ((bytes_eq-Decides i (codes "test.open")).0 h.0 ∙ ap id_of (same_Some Open k h.1))
      | inr f ↦ elim (chosen (bytes_eq i (codes "test.closed")) _ _ _ f.1) [
        | inl h ↦ sym ((bytes_eq-Decides i (codes "test.closed")).0 h.0 ∙ ap id_of (same_Some Closed k h.1))
        | inr h ↦ absurd (none-some k h.1)
      ]
    ]
  ]
]

pub finds_it : (k : TestKind) → IsTrue (is_some (kind_of (id_of k))) → kind_of (id_of k) ≡ Some k
finds_it Value t = refl
finds_it Branch t = refl
finds_it Open t = refl
finds_it Closed t = refl
