-- What is made of a type with all that its handles name.
use Rattle.std.specs.Prelude.{ℕ, zero, suc, List, Option, Some, None}
use Rattle.plir_data.specs.Types.{TypeView, type_at}

-- `over` makes something of a type, where it is given what is made of the types that its handles name; of no type,
-- `none` is made.
module _ {T X : Type 0} (over : (ℕ → X) → TypeView T → X) (none : X) where
  abbrev pub unrolled_if : (below : ℕ → X) → Option (TypeView T) → X
  unrolled_if below (Some t) = over below t
  unrolled_if below None = none

  -- what is made of the type that a handle names, by at most n types above one another
  unfoldable pub unrolled_within : ℕ → List (TypeView T) → ℕ → X
  unrolled_within zero types handle = none
  unrolled_within (suc n) types handle = unrolled_if (unrolled_within n types) (type_at types handle)

  -- What is made of the type that a handle names. The handles that a type holds are smaller than its own, so no more
  -- than that many types stand above one another.
  abbrev pub unrolled : List (TypeView T) → ℕ → X
  unrolled types handle = unrolled_within (suc handle) types handle
