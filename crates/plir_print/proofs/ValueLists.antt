-- The values that come from an operation or a block, by their places.
use Rattle.std.proofs.Common.{◌≡◌, ℕ, ◌<◌, length, Some, sym, ap, subst, ◌∙◌, arith}
use Rattle.std.specs.Prelude.{slice_get}
use Rattle.std.proofs.lemmas.Option.{slice_get-get_or}
use Rattle.std.proofs.lemmas.List.FromFn.{length-map-range_with_len, get_or-map-range_with_len}
use Rattle.plir_core.specs.declared.value.Value.{Value}
use Rattle.plir_core.specs.declared.value.DefiningEntity.{DefiningEntity}
use Rattle.plir_core.specs.ContextView.{ContextView, types_from}
use Rattle.plir_print.specs.ValueNames.{values_from}

module _ {K A T : Type 0} (s : ContextView K A T) (e : DefiningEntity) where
  -- there are as many values as types
  pub length-values : length (values_from s e) ≡ length (types_from s e)
  length-values = length-map-range_with_len (λ i. record { entity = e; index = i }) 0 (length (types_from s e))

  -- the value at a place
  pub value-there : (i : ℕ) → i < length (types_from s e)
      → slice_get (values_from s e) i ≡ Some (record { entity = e; index = i })
  value-there i below =
      let f : ℕ → Value = λ k. record { entity = e; index = k } in
      let within : i < length (values_from s e) = subst (λ n. i < n) (sym length-values) below in
      slice_get-get_or (values_from s e) i (f i) within
      ∙ ap Some (get_or-map-range_with_len f 0 (length (types_from s e)) i i (f i) below (omega arith))
