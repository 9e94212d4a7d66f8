-- What a test has asked of the first of some things, and what is left to ask.
use Rattle.std.proofs.Common.{◌≡◌, ◌↔◌, ℕ, zero, suc, max, ◌+◌, ◌<◌, Bool, true, false, cond, ◌||◌, bytes_eq, List, []}
use Rattle.std.proofs.Common.{◌∷◌, length, drop, All, inl, inr, Some, None, refl, sym, ap, subst, ◌∙◌, arith, add-one}
use Rattle.std.specs.List.{list_any}
use Rattle.std.specs.Prelude.{slice_get}
use Rattle.std.proofs.lemmas.List.{nil_from_length}
use Rattle.std.proofs.lemmas.List.Elements.{All-cons, All-head, All-tail}
use Rattle.std.proofs.lemmas.Map.Text.{is_eq-slice_cmp}
use Rattle.std.proofs.lemmas.Option.{same_Some, none-some}
use Rattle.plir_store.specs.Members.{Has}
use Rattle.plir_data.specs.Dictionary.{dict_get, is_key}
use Rattle.plir_data.specs.Keys.{names_key, value_key}
use Rattle.plir_roundtrip.specs.ReadableParts.{keys_with}
use Rattle.plir_roundtrip.proofs.EntriesShown.{same_key, key_is}

-- ---- a list from a place on

pub drop_at : {X : Type 0} (xs : List X) (i : ℕ) (x : X) → slice_get xs i ≡ Some x → drop i xs ≡ x ∷ drop (i + 1) xs
drop_at xs i x e = rw add-one (at xs i x e)
  where
    at : {X : Type 0} (xs : List X) (i : ℕ) (x : X) → slice_get xs i ≡ Some x → drop i xs ≡ x ∷ drop (suc i) xs
    at [] i x e = absurd (none-some x e)
    at (y ∷ ys) zero x e = ap (λ z. z ∷ ys) (same_Some y x e)
    at (y ∷ ys) (suc i) x e = at ys i x e

pub place_has : {X : Type 0} (xs : List X) (i : ℕ) (x : X) → slice_get xs i ≡ Some x → Has xs x
place_has [] i x e = absurd (none-some x e)
place_has (y ∷ ys) zero x e = inl (same_Some y x e)
place_has (y ∷ ys) (suc i) x e = inr (place_has ys i x e)

pub drop_none : {X : Type 0} (xs : List X) (i : ℕ) → slice_get xs i ≡ None → drop i xs ≡ []
drop_none [] zero e = refl
drop_none [] (suc i) e = refl
drop_none (x ∷ xs) zero e = absurd (none-some x (sym e))
drop_none (x ∷ xs) (suc i) e = drop_none xs i e

-- ---- what all things of a list decide

module _ {X : Type 0} (P : X → Type 0) (R : Type 0) (xs ys : List X) (x : X) where
  pub each_passed : xs ≡ x ∷ ys → P x → (All P xs ↔ R) → All P ys ↔ R
  each_passed is first all =
      let h : All P (x ∷ ys) ↔ R = subst (λ l. All P l ↔ R) is all in
      (λ others. h.0 (All-cons P x ys first others), λ r. All-tail P x ys (h.1 r))

  pub each_failed : xs ≡ x ∷ ys → (P x → ⊥) → (All P xs ↔ R) → R → ⊥
  each_failed is first all r = first (All-head P x ys (subst (λ l. All P l) is (all.1 r)))

-- ---- what the largest of some numbers decides

module _ (R : Type 0) (m a b n : ℕ) where
  pub low_passed : m ≡ max a b → a < n → ((m < n) ↔ R) → (b < n) ↔ R
  low_passed is low all = (λ other. all.0 (omega (arith, is, low, other)), λ r. let h = all.1 r in omega (arith, is, h))

  pub low_failed : m ≡ max a b → (a < n → ⊥) → ((m < n) ↔ R) → R → ⊥
  low_failed is high all r = high (let h = all.1 r in omega (arith, is, h))

-- ---- what stands under no other keys

any_same : (keys : List (List ℕ)) (k l : List ℕ) → k ≡ l
    → list_any (λ z. is_key k z) keys ≡ list_any (λ z. is_key l z) keys
any_same keys k l e = ap (λ y. list_any (λ z. is_key y z) keys) e

module _ {A : Type 0} (keys : List (List ℕ)) (R : Type 0) (es fs : List (List ℕ × A)) (e : List ℕ × A) where
  abbrev OnlyIn : List (List ℕ × A) → Type 0
  OnlyIn l = (k : List ℕ) → list_any (λ z. is_key k z) keys ≡ false → dict_get l k ≡ None

  -- an entry under one of the keys is not seen under others
  not_seen : list_any (λ z. is_key e.0 z) keys ≡ true → (k : List ℕ) → list_any (λ z. is_key k z) keys ≡ false
      → dict_get (e ∷ fs) k ≡ dict_get fs k
  not_seen among k other = by (is_key k e.0) refl
    where
      by : (t : Bool) → is_key k e.0 ≡ t → cond (is_key k e.0) (Some e.1) (dict_get fs k) ≡ dict_get fs k
      by true f = let g = any_same keys k e.0 (key_is k e.0 f) in absurd (let z : ⊥ = cc (among, other, g) in z)
      by false f = ap (λ t. cond t (Some e.1) (dict_get fs k)) f

  pub key_passed : es ≡ e ∷ fs → list_any (λ z. is_key e.0 z) keys ≡ true → (OnlyIn es ↔ R) → OnlyIn fs ↔ R
  key_passed is among all =
      let h : OnlyIn (e ∷ fs) ↔ R = subst (λ l. OnlyIn l ↔ R) is all in (
        λ others. h.0 (λ k other. not_seen among k other ∙ others k other),
        λ r k other. sym (not_seen among k other) ∙ h.1 r k other,
      )

  pub key_failed : es ≡ e ∷ fs → list_any (λ z. is_key e.0 z) keys ≡ false → (OnlyIn es ↔ R) → R → ⊥
  key_failed is other all r =
      let none : dict_get (e ∷ fs) e.0 ≡ None = subst (λ l. dict_get l e.0 ≡ None) is (all.1 r e.0 other) in
      none-some e.1 (sym none ∙ ap (λ t. cond t (Some e.1) (dict_get fs e.0)) (same_key e.0))

-- ---- the keys that are looked for

key_bytes : (k l : List ℕ) → is_key k l ≡ bytes_eq k l
key_bytes k l = is_eq-slice_cmp k l

pub expected_names : (k : List ℕ) (b : Bool) → bytes_eq k names_key ≡ true
    → list_any (λ l. is_key k l) (keys_with b) ≡ true
expected_names k true e = let n : is_key k names_key ≡ true = key_bytes k names_key ∙ e in by (is_key k value_key) n
  where
    by : (t : Bool) → is_key k names_key ≡ true → (t || (is_key k names_key || false)) ≡ true
    by true n = refl
    by false n = ap (λ z. z || false) n
expected_names k false e = ap (λ z. z || false) (key_bytes k names_key ∙ e)

pub expected_none : (k : List ℕ) (b : Bool) → bytes_eq k names_key ≡ false → b ≡ false
    → list_any (λ l. is_key k l) (keys_with b) ≡ false
expected_none k true e f = absurd (let z : ⊥ = cc in z)
expected_none k false e f = ap (λ z. z || false) (key_bytes k names_key ∙ e)

pub expected_value : (k : List ℕ) (b : Bool) → bytes_eq k names_key ≡ false → b ≡ true
    → list_any (λ l. is_key k l) (keys_with b) ≡ bytes_eq k value_key
expected_value k true e f =
    ap (λ z. is_key k value_key || (z || false)) (key_bytes k names_key ∙ e) ∙ or_none (is_key k value_key)
    ∙ key_bytes k value_key
  where
    or_none : (t : Bool) → (t || false) ≡ t
    or_none true = refl
    or_none false = refl
expected_value k false e f = absurd (let z : ⊥ = cc in z)

-- ---- lists by their length

pub one_long : {X : Type 0} (xs : List X) → length xs ≡ 1 → (x : X) × (xs ≡ x ∷ [])
one_long [] e = absurd (omega (arith, e))
one_long (x ∷ xs) e = let rest : length xs ≡ 0 = omega (arith, e) in (x, ap (λ l. x ∷ l) (nil_from_length xs rest))
