-- Lists of one element, and of none.
use Rattle.std.proofs.Common.{◌≡◌, zero, suc, Bool, true, false, List, [], ◌∷◌, length, Some, refl, ap, arith}
use Rattle.std.proofs.Common.{slice_get}
use Rattle.std.specs.Prelude.{All}
use Rattle.std.proofs.lemmas.Option.{same_Some, none-some}

-- what isn't true is false
pub not_true : (b : Bool) → (b ≡ true → ⊥) → b ≡ false
not_true true n = absurd (n refl)
not_true false n = refl

module _ {X : Type 0} where
  -- a list of one element is that of its first
  pub one_of : (xs : List X) (x : X) → length xs ≡ 1 → slice_get xs 0 ≡ Some x → xs ≡ x ∷ []
  one_of [] x e f = absurd (none-some x f)
  one_of (y ∷ []) x e f = ap (λ z. z ∷ []) (same_Some y x f)
  one_of (y ∷ z ∷ zs) x e f = absurd (let w : ⊥ = omega (arith, e) in w)

  pub all_none : (P : X → Type 0) → All P []
  all_none P k d i = absurd (let w : ⊥ = omega (arith, i) in w)

  pub all_one : (P : X → Type 0) (x : X) → P x → All P (x ∷ [])
  all_one P x p zero d i = p
  all_one P x p (suc k) d i = absurd (let w : ⊥ = omega (arith, i) in w)

  pub all_two : (P : X → Type 0) (x y : X) → P x → P y → All P (x ∷ y ∷ [])
  all_two P x y p q zero d i = p
  all_two P x y p q (suc zero) d i = q
  all_two P x y p q (suc (suc k)) d i = absurd (let w : ⊥ = omega (arith, i) in w)
