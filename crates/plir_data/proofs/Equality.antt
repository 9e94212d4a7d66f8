-- Equality of attributes, step by step.
use Rattle.std.proofs.Common.{◌≡◌, ℕ, ◌≤◌, ◌==◌, length, drop, map, Bool, List, [], ◌∷◌, refl, rules, ap, ◌∙◌}
use Rattle.std.proofs.Math.ListN.{drop_of_length-le}
use Rattle.plir_data.specs.AttrView.{AttrView, items_of}
use Rattle.plir_data.specs.AttrEq.{items_eq}

module _ {A X : Type 0} (own_eq : A → A → Bool) (view : X → AttrView A) where
  no_items_equal : (ys : List X) → items_eq own_eq (items_of []) (items_of (map view ys)) ≡ (length ys == 0)
  no_items_equal [] = refl
  no_items_equal (y ∷ ys) = search (rules)

  -- past the end of a list, only an empty list is equal to what is left
  pub nothing_left : (xs ys : List X) (i : ℕ) → length xs ≤ i → items_eq own_eq (items_of (map view (drop i xs)))
      (items_of (map view ys)) ≡ (length ys == 0)
  nothing_left xs ys i past = ap (λ zs. items_eq own_eq (items_of (map view zs)) (items_of (map view ys)))
      (drop_of_length-le xs past) ∙ no_items_equal ys
