-- Lists that agree with the parents of their children.
use Rattle.std.proofs.Common.{◌≡◌, ℕ, ◌<◌, true, false, cond, eqb, List, [], ◌∷◌, length, Option, Some, None, IfSome}
use Rattle.std.proofs.Common.{inl, inr, refl}
use Rattle.plir_store.specs.Members.{Has, head}
use Rattle.plir_store.specs.ListLaws.{within_from_child}
use Rattle.plir_store.specs.Lists.{Lists, IsAgreed, children_at, parent_at, last_of, last_from, next_in, prev_in}
use Rattle.plir_store.specs.Lists.{next_of, prev_of, next_under, prev_under}

first_within_in : (n : ℕ) (xs : List ℕ) → ((x : ℕ) → Has xs x → x < n) → IfSome (head xs) (λ j. j < n)
first_within_in n [] h = tt
first_within_in n (x ∷ xs) h = h x (inl refl)

last_within_in : (n : ℕ) (a : Option ℕ) (xs : List ℕ) → IfSome a
    (λ j. j < n) → ((x : ℕ) → Has xs x → x < n) → IfSome (last_from a xs) (λ j. j < n)
last_within_in n a [] g h = g
last_within_in n a (x ∷ xs) g h = last_within_in n (Some x) xs (h x (inl refl)) (λ y i. h y (inr i))

next_within_in : (n : ℕ) (xs : List ℕ) (c : ℕ) → ((x : ℕ) → Has xs x → x < n) → IfSome (next_in xs c) (λ j. j < n)
next_within_in n [] c h = tt
next_within_in n (x ∷ xs) c h = elim (eqb x c) as (λ b. IfSome (cond b (head xs) (next_in xs c)) (λ j. j < n)) [
  | true ↦ first_within_in n xs (λ y i. h y (inr i))
  | false ↦ next_within_in n xs c (λ y i. h y (inr i))
]

prev_within_in : (n : ℕ) (a : Option ℕ) (xs : List ℕ) (c : ℕ) → IfSome a
    (λ j. j < n) → ((x : ℕ) → Has xs x → x < n) → IfSome (prev_in a xs c) (λ j. j < n)
prev_within_in n a [] c g h = tt
prev_within_in n a (x ∷ xs) c g h = elim (eqb x c) as (λ b. IfSome (cond b a (prev_in (Some x) xs c)) (λ j. j < n)) [
  | true ↦ g
  | false ↦ prev_within_in n (Some x) xs c (h x (inl refl)) (λ y i. h y (inr i))
]

module _ (s : Lists) (a : IsAgreed s) where
  child_within : (p c : ℕ) → Has (children_at s p) c → c < length s.parents
  child_within p c i = a.within p c i

  pub first_of_within : (p : ℕ) → IfSome (head (children_at s p)) (λ c. c < length s.parents)
  first_of_within p = first_within_in (length s.parents) (children_at s p) (child_within p)

  pub last_of_within : (p : ℕ) → IfSome (last_of (children_at s p)) (λ c. c < length s.parents)
  last_of_within p = last_within_in (length s.parents) None (children_at s p) tt (child_within p)

  next_under_within : (c : ℕ) (o : Option ℕ) → IfSome (next_under s c o) (λ c. c < length s.parents)
  next_under_within c None = tt
  next_under_within c (Some p) = next_within_in (length s.parents) (children_at s p) c (child_within p)

  pub next_of_within : (c : ℕ) → IfSome (next_of s c) (λ c. c < length s.parents)
  next_of_within c = next_under_within c (parent_at s c)

  prev_under_within : (c : ℕ) (o : Option ℕ) → IfSome (prev_under s c o) (λ c. c < length s.parents)
  prev_under_within c None = tt
  prev_under_within c (Some p) = prev_within_in (length s.parents) None (children_at s p) c tt (child_within p)

  pub prev_of_within : (c : ℕ) → IfSome (prev_of s c) (λ c. c < length s.parents)
  prev_of_within c = prev_under_within c (parent_at s c)

  parent_within_in : (c : ℕ) (o : Option ℕ) → parent_at s c ≡ o → IfSome o (λ p. p < length s.children)
  parent_within_in c None e = tt
  parent_within_in c (Some p) e = within_from_child s p c (a.held p c e)

  pub parent_at_within : (c : ℕ) → IfSome (parent_at s c) (λ p. p < length s.children)
  parent_at_within c = parent_within_in c (parent_at s c) refl
