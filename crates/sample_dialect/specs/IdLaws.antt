-- An id names no kind but one that has it, and the id of a kind names that kind, if it names any.
use Rattle.std.proofs.Common.{◌≡◌, ℕ, List, Some, codes, refl, sym, ap, ◌∙◌, inl, inr}
use Rattle.std.specs.Prelude.{IsTrue, is_some}
use Rattle.std.specs.Str.{bytes_eq}
use Rattle.std.proofs.lemmas.Slice.Eq.{bytes_eq-Decides}
use Rattle.std.proofs.lemmas.Option.{same_Some, none-some}
use Rattle.plir_attr_text.specs.laws.StepLaws.{chosen}
use Rattle.sample_dialect.specs.declared.kinds.SampleKind.{SampleKind}
use Rattle.sample_dialect.specs.declared.kinds.SampleKind.TheVariants.{Add, Show, Call, Return, Branch, CondBranch}
use Rattle.sample_dialect.specs.Answers.{id_of, kind_of}

pub has_its_id : (i : List ℕ) (k : SampleKind) → kind_of i ≡ Some k → id_of k ≡ i
has_its_id i k e = elim (chosen (bytes_eq i (codes "sample.add")) _ _ _ e) [
  | inl h ↦ sym ((bytes_eq-Decides i (codes "sample.add")).0 h.0 ∙ ap id_of (same_Some Add k h.1))
  | inr f ↦ elim (chosen (bytes_eq i (codes "sample.show")) _ _ _ f.1) [
    | inl h ↦ sym ((bytes_eq-Decides i (codes "sample.show")).0 h.0 ∙ ap id_of (same_Some Show k h.1))
    | inr f ↦ elim (chosen (bytes_eq i (codes "sample.call")) _ _ _ f.1) [
      | inl h ↦ sym ((bytes_eq-Decides i (codes "sample.call")).0 h.0 ∙ ap id_of (same_Some Call k h.1))
      | inr f ↦ elim (chosen (bytes_eq i (codes "sample.return")) _ _ _ f.1) [
        | inl h ↦ sym ((bytes_eq-Decides i (codes "sample.return")).0 h.0 ∙ ap id_of (same_Some Return k h.1))
        | inr f ↦ elim (chosen (bytes_eq i (codes "sample.br")) _ _ _ f.1) [
          | inl h ↦ sym ((bytes_eq-Decides i (codes "sample.br")).0 h.0 ∙ ap id_of (same_Some Branch k h.1))
          | inr f ↦ elim (chosen (bytes_eq i (codes "sample.cond_br")) _ _ _ f.1) [
            | inl h ↦ sym ((bytes_eq-Decides i (codes "sample.cond_br")).0 h.0 ∙ ap id_of (same_Some CondBranch k h.1))
            | inr h ↦ absurd (none-some k h.1)
          ]
        ]
      ]
    ]
  ]
]

pub finds_it : (k : SampleKind) → IsTrue (is_some (kind_of (id_of k))) → kind_of (id_of k) ≡ Some k
finds_it Add t = refl
finds_it Show t = refl
finds_it Call t = refl
finds_it Return t = refl
finds_it Branch t = refl
finds_it CondBranch t = refl
