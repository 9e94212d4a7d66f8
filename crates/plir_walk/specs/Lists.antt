-- Lists of nodes.
use Rattle.std.specs.Prelude.{List, [], ◌∷◌}
use Rattle.plir_store.specs.Members.{Has}

-- R holds of each element and each later one
abbrev pub Pairs : {A : Type 0} → (A → A → Type 0) → List A → Type 0
Pairs R [] = Unit {0}
Pairs {A} R (x ∷ xs) = ((y : A) → Has xs y → R x y) × Pairs R xs
