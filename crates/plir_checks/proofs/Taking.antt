-- Errors that came, as far as a loop has come.
use Rattle.std.proofs.Common.{◌≡◌, ◌+◌, ◌<◌, ◌==◌, ◌&&◌, ℕ, suc, Bool, true, false, List, [], ◌∷◌, ◌++◌, Option, Some}
use Rattle.std.proofs.Common.{None, arith}
use Rattle.std.proofs.Common.{refl, sym, ap, ◌∙◌, drop, take, length, get_or, option_map, remove, cond, drop-cons}
use Rattle.std.proofs.Common.{append_assoc}
use Rattle.std.proofs.lemmas.Bool.{eq-eqb}
use Rattle.std.proofs.Math.Seq.{take-suc}
use Rattle.plir_checks.specs.declared.comparing.Came.{Came}
use Rattle.plir_checks.specs.declared.comparing.CompareErr.{CompareErr}
use Rattle.plir_checks.specs.declared.comparing.CompareErr.TheVariants.{Memory, Missing, Unexpected}
use Rattle.plir_checks.specs.declared.expected.Expected.{Expected}
use Rattle.plir_checks.specs.Comparing.{IsToldOf, is_met, left_by}

-- both tests hold
pub both : (m n : ℕ) (r w : Bool) → m ≡ n → r ≡ w → r ≡ ((m == n) && w)
both m n r w e h = h ∙ sym (ap (λ v. v && w) (eq-eqb m n e))

module _ (came : Came) (expected : List Expected) (k : ℕ) (d : Expected) (below : k < length expected) where
  at : drop k expected ≡ get_or expected k d ∷ drop (suc k) expected
  at = drop-cons expected k d below

  front : take (k + 1) expected ≡ take k expected ++ get_or expected k d ∷ []
  front =
      let one : k + 1 ≡ suc k = omega arith in
      ap (λ j. take j expected) one ∙ take-suc expected k d below

  one_left : (v : Bool) → is_met came (get_or expected k d) ≡ v →
      left_by came (get_or expected k d ∷ drop (suc k) expected) ≡
      cond v (Some (drop (suc k) expected))
      (option_map (λ left. get_or expected k d ∷ left) (left_by came (drop (suc k) expected)))
  one_left v h =
      ap (λ v. cond v (Some (drop (suc k) expected))
      (option_map (λ left. get_or expected k d ∷ left) (left_by came (drop (suc k) expected)))) h

  -- none so far is met, and this one isn't
  pub not_this : option_map (λ left. take k expected ++ left) (left_by came (drop k expected)) ≡ left_by came expected →
      is_met came (get_or expected k d) ≡ false →
      option_map (λ left. take (k + 1) expected ++ left) (left_by came (drop (k + 1) expected)) ≡ left_by came expected
  not_this so_far h =
      let one : k + 1 ≡ suc k = omega arith in
      ap (λ j. option_map (λ left. take (k + 1) expected ++ left) (left_by came (drop j expected))) one
      ∙ shift (left_by came (drop (suc k) expected))
      ∙ ap (option_map (λ left. take k expected ++ left)) (sym (ap (left_by came) at ∙ one_left false h))
      ∙ so_far
    where
      shift : (o : Option (List Expected)) → option_map (λ left. take (k + 1) expected ++ left) o ≡
          option_map (λ left. take k expected ++ left) (option_map (λ left. get_or expected k d ∷ left) o)
      shift None = refl
      shift (Some left) =
          ap Some (ap (λ z. z ++ left) front ∙ append_assoc (take k expected) (get_or expected k d ∷ []) left)

  -- none so far is met, and this one is
  pub this_one : option_map (λ left. take k expected ++ left) (left_by came (drop k expected)) ≡ left_by came expected →
      is_met came (get_or expected k d) ≡ true → left_by came expected ≡ Some (remove expected k)
  this_one so_far h =
      sym so_far
      ∙ ap (option_map (λ left. take k expected ++ left)) (ap (left_by came) at ∙ one_left true h)

-- none is met
pub none_met : (came : Came) (expected : List Expected) (k : ℕ) →
    option_map (λ left. take k expected ++ left) (left_by came (drop k expected)) ≡ left_by came expected →
    drop k expected ≡ [] → left_by came expected ≡ None
none_met came expected k so_far none =
    sym so_far ∙ ap (λ z. option_map (λ left. take k expected ++ left) (left_by came z)) none

pub told_of : (e : CompareErr) (found : Option CompareErr) → found ≡ Some e → IsToldOf found e
told_of Memory found h = tt
told_of (Unexpected line place) found h = h
told_of (Missing line told_at) found h = h
