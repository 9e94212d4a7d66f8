-- Laws of the numbers by which calls within calls at attributes come to an end, proved beside their words so that the
-- crates above can cite them. No contract cites this module.
use Rattle.std.proofs.Common.{◌≡◌, ℕ, zero, suc, ◌<◌, ◌≤◌, List, [], ◌∷◌, length, get_or, map, subst, arith}
use Rattle.plir_data.specs.AttrView.{AttrView}
use Rattle.plir_data.specs.AttrDepth.{bulk, items_bulk, entries_bulk}

module _ {A : Type 0} where
  -- what is no smaller than entries is no smaller than the first and than those behind it
  pub first_small : (n : ℕ) (es fs : List (List ℕ × AttrView A)) (e : List ℕ × AttrView A) → es ≡ e ∷ fs →
      entries_bulk es ≤ n → (bulk e.1 ≤ n) × (entries_bulk fs ≤ n)
  first_small n es fs e is h =
      let k : entries_bulk (e ∷ fs) ≤ n = subst (λ l. entries_bulk l ≤ n) is h in (omega arith, omega arith)

  -- an item of a list, as it is seen, is no larger than the largest
  pub item_small : {X : Type 0} (see : X → AttrView A) (xs : List X) (i : ℕ) (d : X) → i < length xs →
      bulk (see (get_or xs i d)) ≤ items_bulk (map see xs)
  item_small see [] i d within = absurd (omega (arith, within))
  item_small see (x ∷ xs) zero d within = omega arith
  item_small see (x ∷ xs) (suc i) d within = omega (arith, item_small see xs i d (omega (arith, within)))
