-- Where there is no difference, what came is what was expected, in some order.
use Rattle.std.proofs.Common.{◌≡◌, ◌+◌, ℕ, Bool, true, false, List, [], ◌∷◌, Option, Some, None, arith, refl, sym, ap}
use Rattle.std.proofs.Common.{◌∙◌, cond}
use Rattle.std.proofs.Common.{option_map, subst}
use Rattle.std.proofs.lemmas.List.Sorted.{IsPermutation-cons, IsPermutation-refl, IsPermutation-swap}
use Rattle.std.proofs.lemmas.List.Sorted.{IsPermutation-trans}
use Rattle.std.specs.List.Sorted.{IsPermutation}
use Rattle.std.specs.Option.{option_map_or}
use Rattle.plir_checks.specs.declared.comparing.Came.{Came}
use Rattle.plir_checks.specs.declared.comparing.CompareErr.TheVariants.{Missing, Unexpected}
use Rattle.plir_checks.specs.declared.expected.Expected.{Expected}
use Rattle.plir_checks.specs.Comparing.{AreMatched, difference, is_met, left_by}

-- what one that came took stands among those that were left before
record Took (came : Came) (expected left : List Expected) : Type 0 where
  its : Expected
  met : is_met came its ≡ true
  others : IsPermutation expected (its ∷ left)

nothing : {X : Type 0} (x : X) → None ≡ Some x → ⊥
nothing x h = cc

same : {X : Type 0} (x y : X) → Some x ≡ Some y → x ≡ y
same x y h = cc

took : (came : Came) (expected left : List Expected) → left_by came expected ≡ Some left → Took came expected left
took came [] left e = absurd (nothing left e)
took came (x ∷ xs) left e = by (is_met came x) refl (took came xs)
  where
    step : (v : Bool) → is_met came x ≡ v →
        left_by came (x ∷ xs) ≡ cond v (Some xs) (option_map (λ z. x ∷ z) (left_by came xs))
    step v h = ap (λ v. cond v (Some xs) (option_map (λ z. x ∷ z) (left_by came xs))) h

    further : (o : Option (List Expected)) → ((z : List Expected) → o ≡ Some z → Took came xs z) →
        option_map (λ z. x ∷ z) o ≡ Some left → Took came (x ∷ xs) left
    further None more h = absurd (nothing left h)
    further (Some z) more h =
        let t = more z refl in
        let is : x ∷ z ≡ left = same (x ∷ z) left h in
        record {
          its = t.its;
          met = t.met;
          others =
              IsPermutation-trans (x ∷ xs) (x ∷ (t.its ∷ z)) (t.its ∷ left)
              (IsPermutation-cons x xs (t.its ∷ z) t.others)
              (IsPermutation-swap (x ∷ (t.its ∷ z)) (t.its ∷ left) 0 1 (omega arith) (omega arith)
              (ap (λ w. t.its ∷ w) (sym is)));
        }

    by : (v : Bool) → is_met came x ≡ v → ((z : List Expected) → left_by came xs ≡ Some z → Took came xs z) →
        Took came (x ∷ xs) left
    by true h more =
        record {
          its = x;
          met = h;
          others = subst (λ z. IsPermutation (x ∷ xs) (x ∷ z)) (same xs left (sym (step true h) ∙ e))
              (IsPermutation-refl (x ∷ xs));
        }
    by false h more = further (left_by came xs) more (sym (step false h) ∙ e)

-- no difference
pub matched : (place : ℕ) (expected : List Expected) (came : List Came) → difference place expected came ≡ None →
    AreMatched expected came
matched place [] [] none = ([], IsPermutation-refl [], tt)
matched place (x ∷ xs) [] none = absurd (nothing (Missing x.line x.told_at) (sym none))
matched place expected (one ∷ others) none =
    by (left_by one expected) (took one expected) (λ left h. matched (place + 1) left others h) none
  where
    by : (o : Option (List Expected)) → ((left : List Expected) → o ≡ Some left → Took one expected left) →
        ((left : List Expected) → difference (place + 1) left others ≡ None → AreMatched left others) →
        option_map_or (λ left. difference (place + 1) left others) o (Some (Unexpected one.line place)) ≡ None →
        AreMatched expected (one ∷ others)
    by None t more h = absurd (nothing (Unexpected one.line place) (sym h))
    by (Some left) t more h =
        let mine = t left refl in
        let rest = more left h in (
          mine.its ∷ rest.0,
          IsPermutation-trans expected (mine.its ∷ left) (mine.its ∷ rest.0) mine.others
              (IsPermutation-cons mine.its left rest.0 rest.1),
          (mine.met, rest.2),
        )
