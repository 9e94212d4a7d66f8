-- Operands that are put in place one after another.
use Rattle.std.proofs.Common.{◌≡◌, ◌+◌, ℕ, zero, suc, arith, List, [], ◌∷◌, ◌++◌, take, drop, map, length, Option, Some}
use Rattle.std.proofs.Common.{None}
use Rattle.std.proofs.Common.{refl, sym, ap, subst, ◌∙◌, option_map}
use Rattle.std.specs.Prelude.{slice_get, slice_set}
use Rattle.std.proofs.lemmas.Option.{same_Some, none-some}
use Rattle.plir_data.specs.CallSites.{inlined_at}
use Rattle.plir_core.specs.declared.value.Value.{Value}
use Rattle.plir_core.specs.Contents.{OpView}
use Rattle.plir_core.specs.ContextView.{operands_in, results_in}
use Rattle.plir_copies.specs.Images.{Images, value_in, values_in, blocks_in}
use Rattle.plir_copies.specs.Copied.{bare_under, op_under, with_operands_in}

module _ {X : Type 0} (f : X → X) where
  -- the images of the first i, and then what is left of zs
  abbrev pub front : List X → ℕ → List X → List X
  front xs i zs = map f (take i xs) ++ drop i zs

  one_more : (i : ℕ) → suc i + 1 ≡ suc (i + 1)
  one_more i = omega arith

  pub front-next : (xs : List X) (i : ℕ) (x : X) → slice_get xs i ≡ Some x
      → slice_set (front xs i xs) i (f x) ≡ front xs (i + 1) xs
  front-next [] i x e = absurd (none-some x e)
  front-next (y ∷ xs) zero x e = ap (λ z. f z ∷ xs) (sym (same_Some y x e))
  front-next (y ∷ xs) (suc i) x e =
      ap (λ zs. f y ∷ zs) (front-next xs i x e) ∙ ap (λ n. front (y ∷ xs) n (y ∷ xs)) (sym (one_more i))

  pub front-all : (xs : List X) → front xs (length xs) xs ≡ map f xs
  front-all [] = refl
  front-all (y ∷ xs) = ap (λ zs. f y ∷ zs) (front-all xs)

  pub length-front : (xs : List X) (i : ℕ) → length (front xs i xs) ≡ length xs
  length-front [] zero = refl
  length-front [] (suc i) = refl
  length-front (y ∷ xs) zero = refl
  length-front (y ∷ xs) (suc i) = ap suc (length-front xs i)

module _ {K A : Type 0} (m : Images) (xs : List Value) where
  -- what an operation holds whose first i operands are the images of those of xs
  abbrev pub half_set : ℕ → OpView K A → OpView K A
  half_set i o = record o { operands = front (value_in m) xs i o.operands }

  pub half-none : (x : Option (OpView K A)) → option_map (half_set 0) x ≡ x
  half-none None = refl
  half-none (Some o) = refl

  pub half-next : (i : ℕ) (v : Value) → slice_get xs i ≡ Some v → (x : Option (OpView K A)) → operands_in x ≡ xs
      → option_map (λ o. record (half_set i o) { operands = slice_set (half_set i o).operands i (value_in m v) }) x
      ≡ option_map (half_set (i + 1)) x
  half-next i v at None e = refl
  half-next i v at (Some o) e =
      ap (λ zs. let r : OpView K A = record o { operands = zs } in Some r)
      (subst (λ zs. slice_set (front (value_in m) xs i zs) i (value_in m v) ≡ front (value_in m) xs (i + 1) zs) (sym e)
      (front-next (value_in m) xs i v at))

  pub half-all : (n : ℕ) → n ≡ length xs → (x : Option (OpView K A)) → operands_in x ≡ xs
      → option_map (half_set n) x ≡ option_map (with_operands_in m) x
  half-all n is None e = refl
  half-all n is (Some o) e =
      ap (λ zs. let r : OpView K A = record o { operands = zs } in Some r)
      (subst (λ zs. front (value_in m) xs n zs ≡ values_in m zs) (sym e)
      (ap (λ k. front (value_in m) xs k xs) is ∙ front-all (value_in m) xs))

  pub half-length : (i : ℕ) (x : Option (OpView K A)) → operands_in x ≡ xs
      → length (operands_in (option_map (half_set i) x)) ≡ length xs
  half-length i None e = ap length e
  half-length i (Some o) e =
      subst (λ zs. length (front (value_in m) xs i zs) ≡ length xs) (sym e) (length-front (value_in m) xs i)

module _ {K A : Type 0} (m : Images) where
  pub bare-results : (x : Option (OpView K A)) → results_in (option_map (bare_under m) x) ≡ results_in x
  bare-results None = refl
  bare-results (Some o) = refl

  -- operands after successors and the location
  pub bare-whole : (n : Images) → n.block ≡ m.block → n.call ≡ m.call → (x : Option (OpView K A))
      → option_map (with_operands_in m) (option_map (bare_under n) x) ≡ option_map (op_under m) x
  bare-whole n e d None = refl
  bare-whole n e d (Some o) =
      λ i. let r : Images = record { value = m.value; block = e i; call = d i } in let w : OpView K A = record o {
        operands = values_in m o.operands;
        successors = blocks_in r o.successors;
        location = inlined_at o.location r.call;
      } in Some w
