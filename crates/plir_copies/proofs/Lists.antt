-- Lists that grow at their end, and answers whichever they are.
use Rattle.std.proofs.Common.{◌≡◌, ◌+◌, ℕ, List, [], ◌∷◌, ◌++◌, take, map, Some, refl, ap, ◌∙◌}
use Rattle.std.specs.Prelude.{slice_get}
use Rattle.plir_copies.specs.ListLaws.{take_next}

module _ {X Y : Type 0} (f : X → Y) where
  pub map-last : (xs : List X) (x : X) → map f (xs ++ x ∷ []) ≡ map f xs ++ f x ∷ []
  map-last [] x = refl
  map-last (y ∷ xs) x = ap (λ z. f y ∷ z) (map-last xs x)

  pub map-next : (xs : List X) (i : ℕ) (x : X) → slice_get xs i ≡ Some x
      → map f (take (i + 1) xs) ≡ map f (take i xs) ++ f x ∷ []
  map-next xs i x e = ap (map f) (take_next xs i x e) ∙ map-last (take i xs) x
