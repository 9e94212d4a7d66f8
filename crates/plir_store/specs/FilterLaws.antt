-- Laws of tests and of lists without what a test refuses, for the proofs of every crate.
use Rattle.std.proofs.Common.{◌≡◌, Bool, true, false, cond, List, [], ◌∷◌, ◌++◌, inl, inr, refl, sym, ap, ◌∙◌}
use Rattle.std.proofs.lemmas.Bool.{cases_Bool, true≢false}
use Rattle.std.specs.List.{filter}
use Rattle.plir_store.specs.Members.{Has}

pub not-both : (b : Bool) → b ≡ true → b ≡ false → ⊥
not-both b h k = true≢false (sym h ∙ k)

module _ {A : Type 0} where
  -- a test that refuses nothing of a list leaves it
  pub filter-all : (p : A → Bool) (xs : List A) → ((x : A) → Has xs x → p x ≡ true) → filter p xs ≡ xs
  filter-all p [] h = refl
  filter-all p (x ∷ xs) h = (let e = h x (inl refl) in rw e (ap (λ z. x ∷ z) (filter-all p xs (λ y k. h y (inr k)))))

  -- of two tests, one after the other, the stricter one decides
  pub filter-twice : (p q : A → Bool) → ((x : A) → q x ≡ true → p x ≡ true) → (xs : List A)
      → filter q (filter p xs) ≡ filter q xs
  filter-twice p q more [] = refl
  filter-twice p q more (x ∷ xs) = elim (cases_Bool (p x)) [
    | inl e ↦ rw e (ap (λ z. cond (q x) (x ∷ z) z) (filter-twice p q more xs))
    | inr e ↦ elim (cases_Bool (q x)) [
      | inl d ↦ absurd (not-both (p x) (more x d) e)
      | inr d ↦ rw (e, d) (filter-twice p q more xs)
    ]
  ]

  -- where a test refuses one element alone, the others are left
  pub filter-without : (p : A → Bool) (xs ys : List A) (x : A) → p x ≡ false → ((y : A) → Has xs y → p y ≡ true)
      → ((y : A) → Has ys y → p y ≡ true) → filter p (xs ++ x ∷ ys) ≡ xs ++ ys
  filter-without p [] ys x e h k = rw e (filter-all p ys k)
  filter-without p (y ∷ xs) ys x e h k =
      (let d = h y (inl refl) in rw d (ap (λ z. y ∷ z) (filter-without p xs ys x e (λ z l. h z (inr l)) k)))
