-- Laws of membership, for the proofs of every crate: appends, places, images, and elements that stand once.
use Rattle.std.proofs.Common.{◌≡◌, ℕ, zero, suc, List, [], ◌∷◌, ◌++◌, map, Some, slice_get, ◌⊎◌, inl, inr, refl, sym}
use Rattle.std.proofs.Common.{ap, subst}
use Rattle.std.proofs.lemmas.Option.{same_Some, none-some}
use Rattle.plir_store.specs.Members.{Has, Distinct}

module _ {A : Type 0} where
  pub Has-append_left : (xs ys : List A) (n : A) → Has xs n → Has (xs ++ ys) n
  Has-append_left [] ys n h = absurd h
  Has-append_left (x ∷ xs) ys n (inl e) = inl e
  Has-append_left (x ∷ xs) ys n (inr h) = inr (Has-append_left xs ys n h)

  pub Has-append_right : (xs ys : List A) (n : A) → Has ys n → Has (xs ++ ys) n
  Has-append_right [] ys n h = h
  Has-append_right (x ∷ xs) ys n h = inr (Has-append_right xs ys n h)

  pub Has-append_cases : (xs ys : List A) (n : A) → Has (xs ++ ys) n → Has xs n ⊎ Has ys n
  Has-append_cases [] ys n h = inr h
  Has-append_cases (x ∷ xs) ys n (inl e) = inl (inl e)
  Has-append_cases (x ∷ xs) ys n (inr h) = elim (Has-append_cases xs ys n h) [ inl a ↦ inl (inr a) | inr b ↦ inr b ]

  pub Has-mid : (xs ys : List A) (n : A) → Has (xs ++ n ∷ ys) n
  Has-mid xs ys n = Has-append_right xs (n ∷ ys) n (inl refl)

  -- what stands at a place of a list is in it
  pub Has-at : (xs : List A) (i : ℕ) (n : A) → slice_get xs i ≡ Some n → Has xs n
  Has-at [] i n e = absurd (none-some n e)
  Has-at (x ∷ xs) zero n e = inl (same_Some x n e)
  Has-at (x ∷ xs) (suc i) n e = inr (Has-at xs i n e)

  -- what is in a list stands at a place of it
  pub at-Has : (xs : List A) (n : A) → Has xs n → (i : ℕ) × (slice_get xs i ≡ Some n)
  at-Has [] n h = absurd h
  at-Has (x ∷ xs) n (inl e) = (zero, ap Some e)
  at-Has (x ∷ xs) n (inr h) = (let r = at-Has xs n h in (suc r.0, r.1))

  -- what is in a list stands between two parts of it
  pub Has-split : (xs : List A) (n : A) → Has xs n → (front : List A) × (back : List A) × (xs ≡ front ++ n ∷ back)
  Has-split [] n h = absurd h
  Has-split (x ∷ xs) n (inl e) = ([], xs, ap (λ z. z ∷ xs) e)
  Has-split (x ∷ xs) n (inr h) = (let r = Has-split xs n h in (x ∷ r.0, r.1, ap (λ z. x ∷ z) r.2))

  pub Distinct-left : (xs ys : List A) → Distinct (xs ++ ys) → Distinct xs
  Distinct-left [] ys d = tt
  Distinct-left (x ∷ xs) ys d = (λ h. d.0 (Has-append_left xs ys x h), Distinct-left xs ys d.1)

  pub Distinct-right : (xs ys : List A) → Distinct (xs ++ ys) → Distinct ys
  Distinct-right [] ys d = d
  Distinct-right (x ∷ xs) ys d = Distinct-right xs ys d.1

  -- the two parts share nothing
  pub Distinct-cross : (xs ys : List A) → Distinct (xs ++ ys) → (n : A) → Has xs n → Has ys n → ⊥
  Distinct-cross [] ys d n h k = absurd h
  Distinct-cross (x ∷ xs) ys d n (inl e) k = d.0 (Has-append_right xs ys x (subst (Has ys) (sym e) k))
  Distinct-cross (x ∷ xs) ys d n (inr h) k = Distinct-cross xs ys d.1 n h k

  pub Distinct-append : (xs ys : List A) → Distinct xs → Distinct ys → ((n : A) → Has xs n → Has ys n → ⊥) →
      Distinct (xs ++ ys)
  Distinct-append [] ys p q c = q
  Distinct-append (x ∷ xs) ys p q c = (
    λ h. elim (Has-append_cases xs ys x h) [ inl a ↦ p.0 a | inr b ↦ c x (inl refl) b ],
    Distinct-append xs ys p.1 q (λ n h k. c n (inr h) k),
  )

  pub Distinct-one : (n : A) → Distinct (n ∷ [])
  Distinct-one n = (λ h. h, tt)

module _ {A B : Type 0} (f : A → B) where
  pub Has-map : (xs : List A) (b : B) → Has (map f xs) b → (a : A) × (Has xs a × (f a ≡ b))
  Has-map [] b h = absurd h
  Has-map (x ∷ xs) b (inl e) = (x, (inl refl, e))
  Has-map (x ∷ xs) b (inr h) = (let r = Has-map xs b h in (r.0, (inr r.1.0, r.1.1)))

  pub map-Has : (xs : List A) (a : A) → Has xs a → Has (map f xs) (f a)
  map-Has [] a h = absurd h
  map-Has (x ∷ xs) a (inl e) = inl (ap f e)
  map-Has (x ∷ xs) a (inr h) = inr (map-Has xs a h)

  -- the images of different elements, where each has an image of its own
  pub Distinct-map : ((a b : A) → f a ≡ f b → a ≡ b) → (xs : List A) → Distinct xs → Distinct (map f xs)
  Distinct-map one [] d = tt
  Distinct-map one (x ∷ xs) d = (
    λ h. (let r = Has-map xs (f x) h in d.0 (subst (Has xs) (one r.0 x r.1.1) r.1.0)),
    Distinct-map one xs d.1,
  )
