-- Laws of lists of children, proved beside their words so that the crates above can cite them. No contract cites this
-- module.
use Rattle.std.proofs.Common.{◌≡◌, ℕ, ◌<◌, ◌≤◌, zero, suc, true, false, eqb, List, [], ◌∷◌, ◌++◌, length, Some, None}
use Rattle.std.proofs.Common.{inl, inr, refl, sym, ◌∙◌, subst, get_or}
use Rattle.std.specs.List.{IsDistinct, list_any, AllByRecursion}
use Rattle.std.proofs.lemmas.Bool.{cases_eq, cases_lt, ne_eqb}
use Rattle.std.proofs.lemmas.List.{get_or_past}
use Rattle.std.proofs.lemmas.Map.Steps.{length-le_from_distinct_below}
use Rattle.std.proofs.lemmas.Option.{none-some}
use Rattle.plir_store.specs.Members.{Has, Distinct}
use Rattle.plir_store.specs.Lists.{Lists, children_at, parent_at}

-- what has a parent, and what is a parent, is within
pub within_from_parent_at : (s : Lists) (c p : ℕ) → parent_at s c ≡ Some p → c < length s.parents
within_from_parent_at s c p e = elim (cases_lt c (length s.parents)) [
  | inl h ↦ h
  | inr h ↦ absurd (none-some p (sym (get_or_past s.parents c None h) ∙ e))
]

pub within_from_child : (s : Lists) (p c : ℕ) → Has (children_at s p) c → p < length s.children
within_from_child s p c i = elim (cases_lt p (length s.children)) [
  | inl h ↦ h
  | inr h ↦ absurd (subst (λ xs. Has xs c) (get_or_past s.children p [] h) i)
]

-- the default at the end of a list changes no read
pub get_or-push_default : {X : Type 0} (xs : List X) (d : X) (i : ℕ) → get_or (xs ++ d ∷ []) i d ≡ get_or xs i d
get_or-push_default [] d zero = refl
get_or-push_default [] d (suc i) = refl
get_or-push_default (x ∷ xs) d zero = refl
get_or-push_default (x ∷ xs) d (suc i) = get_or-push_default xs d i

-- numbers below n, no two equal, are at most n
AllByRecursion-from_not_in : (x : ℕ) (xs : List ℕ) → (Has xs x → ⊥) → AllByRecursion (λ y. eqb x y ≡ false) xs
AllByRecursion-from_not_in x [] n = tt
AllByRecursion-from_not_in x (y ∷ ys) n = (
  ne_eqb x y (λ e. n (inl (sym e))),
  AllByRecursion-from_not_in x ys (λ i. n (inr i)),
)

IsDistinct-from : (xs : List ℕ) → Distinct xs → IsDistinct eqb xs
unfolding IsDistinct
IsDistinct-from [] a = tt
IsDistinct-from (x ∷ xs) a = (AllByRecursion-from_not_in x xs a.0, IsDistinct-from xs a.1)

Has-from_list_any : (q : ℕ) (xs : List ℕ) → list_any (eqb q) xs ≡ true → Has xs q
Has-from_list_any q [] e = cc
Has-from_list_any q (x ∷ xs) e = elim (cases_eq q x) [
  | inl s ↦ inl (sym s)
  | inr n ↦ inr (Has-from_list_any q xs (rw (ne_eqb q x n) at e))
]

pub length-le_from_Distinct : (xs : List ℕ) (n : ℕ) → Distinct xs → ((x : ℕ) → Has xs x → x < n) → length xs ≤ n
length-le_from_Distinct xs n a below = length-le_from_distinct_below xs n (IsDistinct-from xs a)
    (λ q e. below q (Has-from_list_any q xs e))
