-- What is left of a list from a place on, and what is put of it.
use Rattle.std.proofs.Common.{◌≡◌, ℕ, zero, suc, ◌+◌, ◌<◌, ◌≤◌, List, [], ◌∷◌, ◌++◌, drop, length, Some, refl, sym, ap}
use Rattle.std.proofs.Common.{subst, ◌∙◌, add-one, arith}
use Rattle.std.specs.Prelude.{slice_get}
use Rattle.std.specs.List.{flat_map}
use Rattle.std.proofs.lemmas.List.{drop_all}
use Rattle.std.proofs.lemmas.Option.{same_Some, none-some, slice_get-get_or}
use Rattle.std.proofs.lemmas.List.FromFn.{length-map-range_with_len, get_or-map-range_with_len}
use Rattle.plir_core.specs.declared.ptr.Ptr.{Ptr}
use Rattle.plir_core.specs.declared.ptr.BasicBlock.{BasicBlock as BasicBlockKind}
use Rattle.plir_core.specs.declared.value.Value.{Value}
use Rattle.plir_core.specs.declared.value.DefiningEntity.TheVariants.{Block}
use Rattle.plir_core.specs.ContextView.{ContextView, arg_types_of}
use Rattle.plir_data.specs.TextLaws.{onward, done}
use Rattle.plir_print.specs.ValueNames.{arguments_of}

-- what is left of a list from the place of an element on
pub drop_at : {X : Type 0} (xs : List X) (i : ℕ) (x : X) → slice_get xs i ≡ Some x → drop i xs ≡ x ∷ drop (i + 1) xs
drop_at xs i x e = rw add-one (at xs i x e)
  where
    at : {X : Type 0} (xs : List X) (i : ℕ) (x : X) → slice_get xs i ≡ Some x → drop i xs ≡ x ∷ drop (suc i) xs
    at [] i x e = absurd (none-some x e)
    at (y ∷ ys) zero x e = ap (λ z. z ∷ ys) (same_Some y x e)
    at (y ∷ ys) (suc i) x e = at ys i x e

module _ {X : Type 0} (f : X → List ℕ) (xs : List X) where
  -- one more is put
  pub one-more : (old new total : List ℕ) (i : ℕ) (x : X) → new ≡ old ++ f x → slice_get xs i ≡ Some x
      → old ++ flat_map f (drop i xs) ≡ total → new ++ flat_map f (drop (i + 1) xs) ≡ total
  one-more old new total i x p e g =
      onward old (f x) (flat_map f (drop (i + 1) xs)) (flat_map f (drop i xs)) total new p
      (ap (flat_map f) (drop_at xs i x e)) g

  -- all are put
  pub all-put : (old total : List ℕ) (i : ℕ) → length xs ≤ i → old ++ flat_map f (drop i xs) ≡ total → old ≡ total
  all-put old total i past g =
      done old (flat_map f (drop i xs)) total (ap (flat_map f) (drop_all i xs past)) g

module _ {K A T : Type 0} (s : ContextView K A T) (b : Ptr BasicBlockKind) where
  -- there are as many arguments as types
  pub length-arguments : length (arguments_of s b) ≡ length (arg_types_of s b)
  length-arguments =
      length-map-range_with_len (λ i. record { entity = Block b; index = i }) 0 (length (arg_types_of s b))

  -- the argument at a place
  pub argument-there : (i : ℕ) → i < length (arg_types_of s b)
      → slice_get (arguments_of s b) i ≡ Some (record { entity = Block b; index = i })
  argument-there i below =
      let f : ℕ → Value = λ k. record { entity = Block b; index = k } in
      let within : i < length (arguments_of s b) = subst (λ n. i < n) (sym length-arguments) below in
      slice_get-get_or (arguments_of s b) i (f i) within
      ∙ ap Some (get_or-map-range_with_len f 0 (length (arg_types_of s b)) i i (f i) below (omega arith))
