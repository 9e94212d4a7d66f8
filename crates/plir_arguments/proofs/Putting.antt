-- A list in which one element has come in place of another one.
use Rattle.std.proofs.Common.{◌≡◌, ℕ, zero, suc, ◌+◌, ◌<◌, ◌≤◌, arith, List, [], ◌∷◌, length, Some, inl, inr, ◌⊎◌}
use Rattle.std.proofs.Common.{refl, sym, ap, subst, ◌∙◌}
use Rattle.std.specs.Prelude.{slice_get, slice_index_or, slice_set, sum_by}
use Rattle.std.proofs.lemmas.List.Sums.{sum_by-cons}
use Rattle.std.proofs.lemmas.Option.{none-some, same_Some, slice_get-get_or}
use Rattle.plir_store.specs.Members.{Has, Distinct}
use Rattle.plir_store.specs.MemberLaws.{Has-at}
use Rattle.plir_core.specs.declared.ptr.BasicBlock.{BasicBlock as BlockKind}
use Rattle.plir_core.specs.declared.ptr.Ptr.{Ptr}

-- what is read past the last block: none is
abbrev pub no_block : Ptr BlockKind
no_block = record { slot = 0; version = 0; kind = record {} }

-- a number below the next one is below this one, or is it
below-or-same : (i n : ℕ) → (i < n) ⊎ (n ≤ i)
below-or-same i n = grind arith

pub last-cases : (i n : ℕ) → i < n + 1 → (i < n) ⊎ (i ≡ n)
last-cases i n h = elim (below-or-same i n) [
  | inl l ↦ inl l
  | inr l ↦ inr (let e : i ≡ n = omega (arith, h, l) in e)
]

less-first : (a b s t : ℕ) → a < b → s ≡ t → a + s < b + t
less-first a b s t l e = omega (arith, l, e)

less-rest : (a b s t : ℕ) → a ≡ b → s < t → a + s < b + t
less-rest a b s t e l = omega (arith, e, l)

module _ {X : Type 0} where
  -- what is read at a place stands there
  pub read-at : (xs : List X) (i : ℕ) (x : X) → i < length xs → x ≡ slice_index_or xs i x → slice_get xs i ≡ Some x
  read-at xs i x below e = slice_get-get_or xs i x below ∙ ap Some (sym e)

  -- an element that stands at two places of a list of different ones stands at one
  pub one-place : (xs : List X) (i j : ℕ) (x : X) → Distinct xs → slice_get xs i ≡ Some x → slice_get xs j ≡ Some x → i ≡ j
  one-place [] i j x d e f = absurd (none-some x e)
  one-place (y ∷ ys) zero zero x d e f = refl
  one-place (y ∷ ys) zero (suc j) x d e f = absurd (d.0 (subst (Has ys) (sym (same_Some y x e)) (Has-at ys j x f)))
  one-place (y ∷ ys) (suc i) zero x d e f = absurd (d.0 (subst (Has ys) (sym (same_Some y x f)) (Has-at ys i x e)))
  one-place (y ∷ ys) (suc i) (suc j) x d e f = ap suc (one-place ys i j x d.1 e f)

  -- what stands at the place where one was put, and at any other place
  pub put-here : (xs : List X) (j : ℕ) (c b : X) → slice_get xs j ≡ Some b → slice_get (slice_set xs j c) j ≡ Some c
  put-here [] j c b e = absurd (none-some b e)
  put-here (y ∷ ys) zero c b e = refl
  put-here (y ∷ ys) (suc j) c b e = put-here ys j c b e

  pub put-other : (xs : List X) (j k : ℕ) (c x : X) → (k ≡ j → ⊥) → slice_get xs k ≡ Some x →
      slice_get (slice_set xs j c) k ≡ Some x
  put-other [] j k c x off e = absurd (none-some x e)
  put-other (y ∷ ys) zero zero c x off e = absurd (off refl)
  put-other (y ∷ ys) zero (suc k) c x off e = e
  put-other (y ∷ ys) (suc j) zero c x off e = e
  put-other (y ∷ ys) (suc j) (suc k) c x off e = put-other ys j k c x (λ h. off (ap suc h)) e

  -- what stands in the list afterwards was put, or stood there and is not what went
  pub put-has : (xs : List X) (j : ℕ) (b c x : X) → Distinct xs → slice_get xs j ≡ Some b → Has (slice_set xs j c) x →
      (c ≡ x) ⊎ (Has xs x × (x ≡ b → ⊥))
  put-has [] j b c x d e h = absurd (none-some b e)
  put-has (y ∷ ys) zero b c x d e (inl same) = inl same
  put-has (y ∷ ys) zero b c x d e (inr h) = inr (inr h, λ q. d.0 (subst (Has ys) (q ∙ sym (same_Some y b e)) h))
  put-has (y ∷ ys) (suc j) b c x d e (inl same) =
      inr (inl same, λ q. d.0 (subst (Has ys) (sym (same ∙ q)) (Has-at ys j b e)))
  put-has (y ∷ ys) (suc j) b c x d e (inr h) = elim (put-has ys j b c x d.1 e h) [
    | inl same ↦ inl same
    | inr r ↦ inr (inr r.0, r.1)
  ]

  -- elements are different still where a new one is put
  pub put-once : (xs : List X) (j : ℕ) (b c : X) → Distinct xs → slice_get xs j ≡ Some b → (Has xs c → ⊥) →
      Distinct (slice_set xs j c)
  put-once [] j b c d e off = absurd (none-some b e)
  put-once (y ∷ ys) zero b c d e off = (λ h. off (inr h), d.1)
  put-once (y ∷ ys) (suc j) b c d e off = (
    λ h. elim (put-has ys j b c y d.1 e h) [
      | inl same ↦ off (inl (sym same))
      | inr r ↦ d.0 r.0
    ],
    put-once ys j b c d.1 e (λ h. off (inr h)),
  )

  -- a sum is as it was where no term has changed
  sum-same : (f g : X → ℕ) (xs : List X) → ((x : X) → Has xs x → g x ≡ f x) → sum_by g xs ≡ sum_by f xs
  sum-same f g [] h = refl
  sum-same f g (x ∷ xs) h =
      sum_by-cons g x xs
      ∙ ap (λ n. n + sum_by g xs) (h x (inl refl))
      ∙ ap (λ n. f x + n) (sum-same f g xs (λ y k. h y (inr k)))
      ∙ sym (sum_by-cons f x xs)

  less-by : (f g : X → ℕ) (x y : X) (xs ys : List X) → g x + sum_by g xs < f y + sum_by f ys →
      sum_by g (x ∷ xs) < sum_by f (y ∷ ys)
  less-by f g x y xs ys l =
      subst (λ n. n < sum_by f (y ∷ ys)) (sym (sum_by-cons g x xs))
      (subst (λ n. g x + sum_by g xs < n) (sym (sum_by-cons f y ys)) l)

  -- and is less where the one that was put has less, and no other term has changed
  pub sum-less : (f g : X → ℕ) (xs : List X) (j : ℕ) (b c : X) → Distinct xs → slice_get xs j ≡ Some b → g c < f b →
      ((x : X) → Has xs x → (x ≡ b → ⊥) → g x ≡ f x) → sum_by g (slice_set xs j c) < sum_by f xs
  sum-less f g [] j b c d e l h = absurd (none-some b e)
  sum-less f g (y ∷ ys) zero b c d e l h =
      less-by f g c y ys ys
      (less-first (g c) (f y) (sum_by g ys) (sum_by f ys) (subst (λ z. g c < f z) (sym (same_Some y b e)) l)
      (sum-same f g ys (λ x k. h x (inr k) (λ q. d.0 (subst (Has ys) (q ∙ sym (same_Some y b e)) k)))))
  sum-less f g (y ∷ ys) (suc j) b c d e l h =
      less-by f g y y (slice_set ys j c) ys
      (less-rest (g y) (f y) (sum_by g (slice_set ys j c)) (sum_by f ys)
      (h y (inl refl) (λ q. d.0 (subst (Has ys) (sym q) (Has-at ys j b e))))
      (sum-less f g ys j b c d.1 e l (λ x k. h x (inr k))))
