-- How a table of types grows.
use Rattle.std.proofs.Common.{◌≡◌, ℕ, suc, zero, ◌<◌, ◌⊎◌, inl, inr, List, [], ◌∷◌, ◌++◌, length, map, Some, option_map}
use Rattle.std.proofs.Common.{All, Contains, slice_get, refl, sym, ap, subst, ◌∙◌, arith}
use Rattle.std.proofs.lemmas.List.{length-map}
use Rattle.std.proofs.Math.ListN.{get_or-map}
use Rattle.std.proofs.lemmas.Option.{slice_get_within, get_or_from_slice_get, slice_get-map}
use Rattle.plir_data.specs.Types.{TypeView, integer, function, unit, own, IsGrown, IsTypeTable, IsInstantiated, AllLive}
use Rattle.plir_data.specs.Types.{handles_of, type_at}
use Rattle.plir_data.specs.TypeSeen.{type_view}
use Rattle.plir_data.specs.declared.types.TypeObj.{TypeObj}
use Rattle.plir_data.specs.declared.types.TypeObj.TheVariants.{Integer, Function, Unit, Own}

module _ {X : Type 0} where
  -- what stands at a place of a list with one thing more
  pub at_push : (xs : List X) (x y : X) (i : ℕ) → slice_get (xs ++ x ∷ []) i ≡ Some y → (slice_get xs i ≡ Some y) ⊎
      ((i ≡ length xs) × (x ≡ y))
  at_push [] x y zero e = inr (refl, (let f : x ≡ y = cc in f))
  at_push [] x y (suc i) e = absurd (let f : ⊥ = cc in f)
  at_push (z ∷ xs) x y zero e = inl e
  at_push (z ∷ xs) x y (suc i) e = elim (at_push xs x y i e) [ inl h ↦ inl h | inr h ↦ inr (ap suc h.0, h.1) ]

  Contains-at : (xs : List X) (x : X) (i : ℕ) → slice_get xs i ≡ Some x → Contains xs x
  Contains-at xs x i e = (i, slice_get_within xs i x e, get_or_from_slice_get xs i x x e)

module _ {D K A T E : Type 0} where
  same_view : (x y : TypeObj D K A T E) → type_view x ≡ type_view y → x ≡ y
  same_view x y e = sym (back x) ∙ ap object e ∙ back y
    where
      object : TypeView T → TypeObj D K A T E
      object (integer s w) = Integer (record { width = w; signedness = s })
      object (function as_ rs) = Function (record { 0 = (as_, rs) })
      object unit = Unit (record {})
      object (own t) = Own t

      back : (x : TypeObj D K A T E) → object (type_view x) ≡ x
      back (Integer i) = refl
      back (Function f) = refl
      back (Unit u) = refl
      back (Own t) = refl

  map-push : (xs : List (TypeObj D K A T E)) (x : TypeObj D K A T E) → map type_view (xs ++ x ∷ []) ≡ map type_view xs
      ++ type_view x ∷ []
  map-push [] x = refl
  map-push (y ∷ ys) x = ap (λ zs. type_view y ∷ zs) (map-push ys x)

  pub grown_view : (xs ys : List (TypeObj D K A T E)) (x : TypeObj D K A T E) → IsGrown xs x ys → IsGrown
      (map type_view xs) (type_view x) (map type_view ys)
  grown_view xs ys x (inl e) = inl (ap (map type_view) e)
  grown_view xs ys x (inr h) = inr (absent, ap (map type_view) h.1 ∙ map-push xs x)
    where
      absent : Contains (map type_view xs) (type_view x) → ⊥
      absent c = h.0 (
        c.0,
        omega (arith, length-map xs type_view, c.1),
        same_view _ _
            (sym (get_or-map type_view xs c.0 x) ∙ c.2),
      )

module _ {T : Type 0} (own_handles : T → List ℕ) where
  pub grown_table : (ts us : List (TypeView T)) (t : TypeView T) → IsGrown ts t us → AllLive ts
      (handles_of own_handles t) → IsTypeTable own_handles ts → IsTypeTable own_handles us
  grown_table ts us t (inl e) live table = subst (IsTypeTable own_handles) (sym e) table
  grown_table ts us t (inr h) live table = subst (IsTypeTable own_handles) (sym h.1)
      (record { once = once; before = before })
    where
      never : (x : TypeView T) (i : ℕ) → slice_get ts i ≡ Some x → t ≡ x → ⊥
      never x i at e = h.0 (subst (Contains ts) (sym e) (Contains-at ts x i at))

      once : (x : TypeView T) (i j : ℕ) → type_at (ts ++ t ∷ []) i ≡ Some x → type_at (ts ++ t ∷ []) j ≡ Some x → i ≡ j
      once x i j p q =
          elim (at_push ts t x i p) [
            | inl a ↦ elim (at_push ts t x j q) [ inl b ↦ table.once x i j a b | inr b ↦ absurd (never x i a b.1) ]
            | inr a ↦ elim (at_push ts t x j q) [ inl b ↦ absurd (never x j b a.1) | inr b ↦ a.0 ∙ sym b.0 ]
          ]

      before : (x : TypeView T) (i : ℕ) → type_at (ts ++ t ∷ []) i ≡ Some x → All
          (λ handle. handle < i) (handles_of own_handles x)
      before x i p =
          elim (at_push ts t x i p) [
            | inl a ↦ table.before x i a
            | inr a ↦ subst (λ y. All (λ handle. handle < i) (handles_of own_handles y)) a.1
                (subst (λ n. All (λ handle. handle < n) (handles_of own_handles t)) (sym a.0) live)
          ]

module _ {D K A T E : Type 0} where
  -- a table after one type more
  pub instantiated : (xs ys : List (TypeObj D K A T E)) (x : TypeObj D K A T E) (i : ℕ) (seen : List (TypeView T)) → map
      type_view xs ≡ seen → IsGrown xs x ys → slice_get ys i ≡ Some x → IsInstantiated seen (type_view x) i
      (map type_view ys)
  instantiated xs ys x i seen s grown at = record {
    named = slice_get-map type_view ys i ∙ ap (λ o. option_map type_view o) at;
    grown = subst (λ ts. IsGrown ts (type_view x) (map type_view ys)) s (grown_view xs ys x grown);
  }
