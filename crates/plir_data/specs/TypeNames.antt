-- Each kind of the builtin types has the one id of its types as its name.
use Rattle.std.specs.Prelude.{◌≡◌, ℕ, List, true, codes, refl}
use Rattle.std.proofs.Common.{true≢false, sym}
use Rattle.plir_data.specs.Types.{TypeView, integer, function, unit, own, is_integer, is_function, is_unit, type_id}

module _ {T : Type 0} (own_id : T → List ℕ) where
  pub integer_named : (t : TypeView T) → is_integer t ≡ true → type_id own_id t ≡ codes "builtin.integer"
  integer_named (integer s w) m = refl
  integer_named (function arguments results) m = absurd (true≢false (sym m))
  integer_named unit m = absurd (true≢false (sym m))
  integer_named (own t) m = absurd (true≢false (sym m))

  pub function_named : (t : TypeView T) → is_function t ≡ true → type_id own_id t ≡ codes "builtin.function"
  function_named (integer s w) m = absurd (true≢false (sym m))
  function_named (function arguments results) m = refl
  function_named unit m = absurd (true≢false (sym m))
  function_named (own t) m = absurd (true≢false (sym m))

  pub unit_named : (t : TypeView T) → is_unit t ≡ true → type_id own_id t ≡ codes "builtin.unit"
  unit_named (integer s w) m = absurd (true≢false (sym m))
  unit_named (function arguments results) m = absurd (true≢false (sym m))
  unit_named unit m = refl
  unit_named (own t) m = absurd (true≢false (sym m))
