-- The first of a list that passes a test, as far as a loop has come.
use Rattle.std.proofs.Common.{◌≡◌, ℕ, suc, ◌+◌, ◌<◌, ◌≤◌, Bool, true, false, cond, List, [], ◌∷◌, ◌++◌, length, drop}
use Rattle.std.proofs.Common.{take, get_or, arith, sym, ap, ◌∙◌, Some, None}
use Rattle.std.specs.List.{find}
use Rattle.std.specs.Option.{option_or}
use Rattle.std.proofs.lemmas.List.{take_all}
use Rattle.std.proofs.lemmas.List.Folds.{find-append}
use Rattle.std.proofs.Math.Seq.{take-suc}
use Rattle.plir_pipelines.proofs.Zipped.{parted}

module _ {X : Type 0} (test : X → Bool) (xs : List X) (i : ℕ) where
  -- no element in front of a place passes it, so the first is found from there on
  found-from : (d : X) (rest : List X) → find test (take i xs) ≡ None →
      find test (take i xs ++ get_or xs i d ∷ rest)
      ≡ cond (test (get_or xs i d)) (Some (get_or xs i d)) (find test rest)
  found-from d rest none =
      find-append test (take i xs) (get_or xs i d ∷ rest)
      ∙ ap (λ o. option_or o (find test (get_or xs i d ∷ rest))) none

  module _ (x : X) (below : i < length xs) (is : x ≡ get_or xs i x) (none : find test (take i xs) ≡ None) where
    -- the one at the place does
    pub found-here : test x ≡ true → find test xs ≡ Some x
    found-here here =
        ap (find test) (parted xs i x below)
        ∙ found-from x (drop (i + 1) xs) none
        ∙ ap (λ b. cond b (Some (get_or xs i x)) (find test (drop (i + 1) xs))) (ap test (sym is) ∙ here)
        ∙ ap Some (sym is)

    -- nor does it
    pub found-next : test x ≡ false → find test (take (i + 1) xs) ≡ None
    found-next not_here =
        let next : i + 1 ≡ suc i = omega arith in
        ap (λ k. find test (take k xs)) next
        ∙ ap (find test) (take-suc xs i x below)
        ∙ found-from x [] none
        ∙ ap (λ b. cond b (Some (get_or xs i x)) None) (ap test (sym is) ∙ not_here)

  -- none does
  pub found-none : length xs ≤ i → find test (take i xs) ≡ None → find test xs ≡ None
  found-none past none = ap (find test) (sym (take_all i xs past)) ∙ none
