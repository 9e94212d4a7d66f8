-- Results and arguments that can be read, one after another.
use Rattle.std.proofs.Common.{◌≡◌, ◌⊎◌, ℕ, zero, suc, ◌+◌, ◌<◌, ◌≤◌, length, get_or, inl, inr, Some, refl, ap, subst}
use Rattle.std.proofs.Common.{sym, ◌∙◌, arith}
use Rattle.std.specs.Prelude.{slice_get}
use Rattle.std.proofs.lemmas.Option.{slice_get-get_or, get_or_from_slice_get}
use Rattle.plir_data.specs.TypeTree.{tree_of}
use Rattle.plir_core.specs.declared.value.DefiningEntity.{DefiningEntity}
use Rattle.plir_core.specs.ContextView.{ContextView, types_from}
use Rattle.plir_attr_text.specs.Writable.{IsBuiltin}
use Rattle.plir_roundtrip.specs.Readable.{AreValuesReadable}
use Rattle.plir_roundtrip.specs.ReadableParts.{IsValueReadable}

-- a number below the next one is below this one or is it
below_next : (j n : ℕ) → j < n + 1 → (j < n) ⊎ (j ≡ n)
below_next zero zero lt = inr refl
below_next zero (suc n) lt = inl (omega arith)
below_next (suc j) zero lt = absurd (omega (arith, lt))
below_next (suc j) (suc n) lt =
    elim (below_next j n (omega (arith, lt))) [ inl h ↦ inl (omega (arith, h)) | inr e ↦ inr (ap suc e) ]

-- what is said of all numbers below one, and of it, is said of all below the next
pub one_more : (P : ℕ → Type 0) (n : ℕ) → ((j : ℕ) → j < n → P j) → P n → (j : ℕ) → j < n + 1 → P j
one_more P n h x j lt = elim (below_next j n lt) [ inl k ↦ h j k | inr e ↦ subst P (sym e) x ]

module _ {K A T : Type 0} (s : ContextView K A T) (e : DefiningEntity) where
  pub values_from_each : (n : ℕ) → length (types_from s e) ≤ n → ((j : ℕ) → j < n → IsValueReadable s e j)
      → AreValuesReadable s e
  values_from_each n le h = record {
    types =
        λ k d lt.
        (h k (omega (arith, le, lt))).0 (get_or (types_from s e) k d) (slice_get-get_or (types_from s e) k d lt);
    names = λ i lt. (h i (omega (arith, le, lt))).1;
  }

  pub value_from_all : AreValuesReadable s e → (i : ℕ) → i < length (types_from s e) → IsValueReadable s e i
  value_from_all r i lt = (
    λ h at.
        subst (λ z. IsBuiltin (tree_of s.types z)) (get_or_from_slice_get (types_from s e) i h 0 at) (r.types i 0 lt),
    r.names i lt,
  )

  pub value_at : (i h : ℕ) → slice_get (types_from s e) i ≡ Some h → IsBuiltin (tree_of s.types h) → (k : ℕ)
      → slice_get (types_from s e) i ≡ Some k → IsBuiltin (tree_of s.types k)
  value_at i h at builtin k other =
      subst (λ z. IsBuiltin (tree_of s.types z))
      (sym (get_or_from_slice_get (types_from s e) i h 0 at) ∙ get_or_from_slice_get (types_from s e) i k 0 other)
      builtin
