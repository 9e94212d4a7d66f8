-- How many levels the types of values and the entries of a dictionary have, one after another.
use Rattle.std.proofs.Common.{◌≡◌, ◌↔◌, ℕ, zero, suc, max, ◌+◌, ◌-◌, ◌<◌, ◌≤◌, Bool, true, false, cond, List, [], ◌∷◌}
use Rattle.std.proofs.Common.{length, drop, map, Option, Some, IsTrue, refl, sym, ap, subst, ◌∙◌, arith}
use Rattle.std.specs.List.{range_with_len}
use Rattle.std.specs.Prelude.{slice_get}
use Rattle.std.proofs.lemmas.List.{drop_all}
use Rattle.std.proofs.lemmas.Option.{slice_get_within}
use Rattle.plir_data.specs.AttrView.{AttrView, entries_of}
use Rattle.plir_data.specs.TypeTree.{tree_of}
use Rattle.plir_data.specs.Types.{TypeView}
use Rattle.plir_data.specs.declared.op_set.OpKind.{OpKind}
use Rattle.plir_data.specs.declared.op_set.OpSet as op_set
use Rattle.plir_core.specs.declared.value.DefiningEntity.{DefiningEntity}
use Rattle.plir_core.specs.declared.value.Value.{Value}
use Rattle.plir_core.specs.ContextView.{ContextView, type_of_value, types_from}
use Rattle.plir_attr_text.specs.Terms.{type_levels, levels, entries_levels}
use Rattle.plir_attr_text.specs.Writable.{attr_term, entry_terms, type_term}
use Rattle.plir_print.specs.Dictionaries.{is_shown, shown_of}
use Rattle.plir_print.specs.ValueNames.{values_from}
use Rattle.plir_roundtrip.specs.Written.{some_type_term}
use Rattle.plir_roundtrip.specs.WrittenLevels.{entry_level, shown_levels, value_levels}
use Rattle.plir_roundtrip.proofs.Asked.{drop_at}
use Rattle.plir_roundtrip.proofs.Children.{at_row}

-- ---- an entry that is shown, or not

pub hidden_level : (t : Bool) (n left : ℕ) → t ≡ false → 0 < left → cond t n 0 < left
hidden_level t n left e some = subst (λ z. cond z n 0 < left) (sym e) some

pub seen_level : (t : Bool) (n left : ℕ) (r : Bool) → t ≡ true → 0 < left → (IsTrue r ↔ (n ≤ left - 1))
    → IsTrue r ↔ (cond t n 0 < left)
seen_level t n left r e some asked =
    subst (λ z. IsTrue r ↔ (cond z n 0 < left)) (sym e)
    (λ h. let k = asked.0 h in omega (arith, some, k), λ h. asked.1 (omega (arith, h)))

module _ {D K A T E : Type 0} (o : op_set.Ghosts D K A T E) (types : List (TypeView T)) (kind : Option (OpKind K)) where
  pub first_entry : (es fs : List (List ℕ × AttrView A)) (e : List ℕ × AttrView A) → es ≡ e ∷ fs
      → shown_levels o types kind es ≡ max (entry_level o types kind e) (shown_levels o types kind fs)
  first_entry es fs e is = ap (shown_levels o types kind) is ∙ by (is_shown o kind e)
    where
      by : (t : Bool) → entries_levels
          (entry_terms types (entries_of (cond t (e ∷ shown_of o kind fs) (shown_of o kind fs)))) ≡
          max (cond t (levels (attr_term types e.1)) 0) (shown_levels o types kind fs)
      by true = refl
      by false = omega arith

-- ---- values

row_long : {X : Type 0} (f : ℕ → X) (a n : ℕ) → length (map f (range_with_len a n)) ≡ n
row_long f a zero = refl
row_long f a (suc n) = ap suc (row_long f (a + 1) n)

module _ {K A T : Type 0} (s : ContextView K A T) where
  pub first_value : (vs : List Value) (i : ℕ) (v : Value) (h : ℕ) → slice_get vs i ≡ Some v → type_of_value s v ≡ Some h
      → value_levels s (drop i vs) ≡ max (type_levels (type_term (tree_of s.types h))) (value_levels s (drop (i + 1) vs))
  first_value vs i v h at typed =
      ap (value_levels s) (drop_at vs i v at)
      ∙ ap (λ z. max (type_levels (some_type_term s.types z)) (value_levels s (drop (i + 1) vs))) typed

  -- those that come from an operation or a block
  module _ (e : DefiningEntity) where
    abbrev value : ℕ → Value
    value i = record { entity = e; index = i }

    pub value_there : (i : ℕ) → i < length (types_from s e) → slice_get (values_from s e) i ≡ Some (value i)
    value_there i lt =
        at_row value 0 (length (types_from s e)) i lt
        ∙ ap (λ k. Some (value k)) (let e : 0 + i ≡ i = omega arith in e)

    pub first_from : (i h : ℕ) → slice_get (types_from s e) i ≡ Some h → value_levels s (drop i (values_from s e)) ≡
        max (type_levels (type_term (tree_of s.types h))) (value_levels s (drop (i + 1) (values_from s e)))
    first_from i h at =
        first_value (values_from s e) i (value i) h (value_there i (slice_get_within (types_from s e) i h at)) at

    pub none_from : (i : ℕ) → length (types_from s e) ≤ i → drop i (values_from s e) ≡ []
    none_from i le =
        drop_all i (values_from s e) (let n : length (values_from s e) ≡ length (types_from s e) =
        row_long value 0 (length (types_from s e)) in omega (arith, n, le))
