-- Handles in lists, and those that a type holds.
use Rattle.std.proofs.Common.{◌≡◌, ℕ, zero, suc, ◌<◌, ◌≤◌, max, List, [], ◌∷◌, ◌++◌, length, get_or, All, Some, ap, ◌∙◌}
use Rattle.std.proofs.Common.{arith}
use Rattle.plir_data.specs.Types.{TypeView, IsTypeTable, handles_of, type_at}
use Rattle.plir_data.specs.{TypeSeen.type_view, declared.types.TypeObj.TypeObj}

-- one more than the largest
abbrev pub above_all : List ℕ → ℕ
above_all [] = 0
above_all (n ∷ ns) = max (suc n) (above_all ns)

pub above_each : (ns : List ℕ) (i d : ℕ) → i < length ns → get_or ns i d < above_all ns
above_each [] i d within = absurd (omega (arith, within))
above_each (n ∷ ns) zero d within = omega arith
above_each (n ∷ ns) (suc i) d within = omega (arith, above_each ns i d (omega (arith, within)))

pub above_all_upto : (ns : List ℕ) (n : ℕ) → All (λ k. k < n) ns → above_all ns ≤ n
above_all_upto [] n all = omega arith
above_all_upto (k ∷ ns) n all = omega (
  arith,
  all 0 0 (omega arith),
  above_all_upto ns n (λ i d p. all (suc i) d (omega (arith, p))),
)

pub above_left : (ms ns : List ℕ) → above_all ms ≤ above_all (ms ++ ns)
above_left [] ns = omega arith
above_left (m ∷ ms) ns = omega (arith, above_left ms ns)

pub above_right : (ms ns : List ℕ) → above_all ns ≤ above_all (ms ++ ns)
above_right [] ns = omega arith
above_right (m ∷ ms) ns = omega (arith, above_right ms ns)

-- the type of a handle, as it was read, holds smaller handles alone
pub held_below : {D K A T E : Type 0} (own_handles : T → List ℕ) (types : List (TypeView T)) (h : ℕ)
    (x y : TypeObj D K A T E) → type_at types h ≡ Some (type_view x) → IsTypeTable own_handles types → x ≡ y →
    All (λ k. k < h) (handles_of own_handles (type_view y))
held_below own_handles types h x y at whole is = whole.before (type_view y) h (at ∙ ap (λ z. Some (type_view z)) is)
