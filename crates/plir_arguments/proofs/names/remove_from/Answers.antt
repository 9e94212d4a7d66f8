use Rattle.std.proofs.Common.{◌≡◌, ◌≤◌, ◌∙◌, ◌++◌, ℕ, suc, arith, ap, drop, length, List}
use Rattle.std.specs.Prelude.{remove}
use Rattle.std.proofs.lemmas.List.{take_all, drop_all, append-nil}

-- past the end nothing is taken out
remove-past : {X : Type 0} (xs : List X) (i : ℕ) → length xs ≤ i → remove xs i ≡ xs
remove-past xs i past =
    ap (λ z. z ++ drop (suc i) xs) (take_all i xs past) ∙ ap (λ z. xs ++ z) (drop_all (suc i) xs (omega (arith, past)))
    ∙ append-nil xs
