-- The nearest table is one, and so is what is found in it.
use Rattle.std.proofs.Common.{◌≡◌, ℕ, arith, Bool, List, Option, Some, None, inl, inr, refl, sym, ap, ◌∙◌}
use Rattle.std.proofs.Common.{true≢false}
use Rattle.std.specs.Prelude.{option_and_then}
use Rattle.std.proofs.lemmas.Bool.{cases_lt}
use Rattle.plir_core.specs.declared.ptr.Ptr.{Ptr}
use Rattle.plir_core.specs.declared.ptr.Operation.{Operation as OperationKind}
use Rattle.plir_core.specs.Above.{climb}
use Rattle.plir_core.specs.ContextView.{ContextView}
use Rattle.plir_builtin.specs.Nearest.{IsFoundNearest, IsNearest, op_over}
use Rattle.plir_builtin.specs.Symbols.{scan}

module _ {K A T : Type 0} (own_table : K → Bool) (s : ContextView K A T) (n : Ptr OperationKind) where
  pub nearest-same : (t u : Option (Ptr OperationKind)) → IsNearest own_table s n t → IsNearest own_table s n u → t ≡ u
  nearest-same None None h k = refl
  nearest-same None (Some u) h k = absurd (true≢false (sym k.2 ∙ h k.0 u k.1))
  nearest-same (Some t) None h k = absurd (true≢false (sym h.2 ∙ k h.0 t h.1))
  nearest-same (Some t) (Some u) h k = elim (cases_lt h.0 k.0) [
    | inl less ↦ absurd (true≢false (sym h.2 ∙ k.3 h.0 t less h.1))
    | inr past ↦ elim (cases_lt k.0 h.0) [
      | inl less ↦ absurd (true≢false (sym k.2 ∙ h.3 k.0 u less k.1))
      | inr behind ↦
          (let same : h.0 ≡ k.0 = omega arith in
          sym h.1 ∙ ap (λ z. climb (op_over s) z (Some n)) same ∙ k.1)
    ]
  ]

  pub found-same : (own_symbol : K → Bool) (x : List ℕ) (r q : Option (Ptr OperationKind)) →
      IsFoundNearest own_symbol own_table s n x r → IsFoundNearest own_symbol own_table s n x q → r ≡ q
  found-same own_symbol x r q h k =
      h.3 ∙ ap (option_and_then (λ p. scan own_symbol s p x)) (nearest-same h.0 k.0 h.1 k.1) ∙ sym k.3
