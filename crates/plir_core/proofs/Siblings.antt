-- The children of a list by their places.
use Rattle.std.proofs.Common.{◌≡◌, ℕ, zero, suc, ◌+◌, ◌<◌, List, [], ◌∷◌, length, ◌^◌, ◌≤◌, Option, Some, None, refl}
use Rattle.std.proofs.Common.{sym, ◌∙◌, ap, subst, eq-eqb, add-one, arith}
use Rattle.std.specs.Prelude.{slice_get}
use Rattle.std.proofs.lemmas.Bool.{ne_eqb}
use Rattle.std.proofs.lemmas.Option.{same_Some, none-some, slice_get_within}
use Rattle.plir_store.specs.MemberLaws.{Has-at, at-Has}
use Rattle.plir_store.specs.Members.{Has, Distinct, head}
use Rattle.plir_store.specs.ListLaws.{length-le_from_Distinct}
use Rattle.plir_store.specs.Lists.{Lists, IsAgreed, children_at, next_in, next_of}

pub first_get : (xs : List ℕ) → head xs ≡ slice_get xs 0
first_get [] = refl
first_get (x ∷ xs) = refl

next_get : (xs : List ℕ) (c i : ℕ) → Distinct xs → slice_get xs i ≡ Some c → next_in xs c ≡ slice_get xs (suc i)
next_get [] c i a e = absurd (none-some c e)
next_get (x ∷ xs) c zero a e = rw (eq-eqb x c (same_Some x c e)) (first_get xs)
next_get (x ∷ xs) c (suc i) a e =
    let n : x ≡ c → ⊥ = λ q. a.0 (subst (λ z. Has xs z) (sym q) (Has-at xs i c e)) in
    rw (ne_eqb x c n) (next_get xs c i a.1 e)

-- what follows the child at a place is the child at the next place
pub next_at : (s : Lists) → IsAgreed s → (p i c : ℕ) → slice_get (children_at s p) i ≡ Some c → next_of s c ≡ slice_get
    (children_at s p) (i + 1)
next_at s a p i c e = rw (a.owned p c (Has-at (children_at s p) i c e), add-one)
    (next_get (children_at s p) c i (a.apart p) e)

-- where a place holds a child, it is within
pub child_in : (s : Lists) → IsAgreed s → (p i c : ℕ) → slice_get (children_at s p) i ≡ Some c → c < length s.parents
child_in s a p i c e = a.within p c (Has-at (children_at s p) i c e)

-- a list has fewer than 2 ^ 32 children
pub children_few : (s : Lists) → IsAgreed s → (p : ℕ) → length (children_at s p) < 2 ^ 32
children_few s a p = let h = length-le_from_Distinct (children_at s p) (length s.parents) (a.apart p)
    (λ c i. a.within p c i) in omega (arith, a.num_children)

-- a place that holds none is past the end
pub none_past : (xs : List ℕ) (i : ℕ) → slice_get xs i ≡ None → length xs ≤ i
none_past [] i e = omega arith
none_past (x ∷ xs) zero e = absurd (none-some x (sym e))
none_past (x ∷ xs) (suc i) e = let h = none_past xs i e in omega arith

-- c is sought in a list, of which `at` stands at `place`: it is not before that place
pub record IsSeeking (xs : List ℕ) (c place : ℕ) (at : Option ℕ) : Type 0 where
  pub at_place : at ≡ slice_get xs place
  pub index : ℕ
  pub ahead : place ≤ index
  pub here : slice_get xs index ≡ Some c

pub IsSeeking-start : (xs : List ℕ) (c : ℕ) → Has xs c → IsSeeking xs c 0 (head xs)
IsSeeking-start xs c k = let r = at-Has xs c k in record {
  at_place = first_get xs;
  index = r.0;
  ahead = omega arith;
  here = r.1;
}

-- another child stands at the place
pub IsSeeking-more : (xs : List ℕ) (c place x : ℕ) (at next : Option ℕ) → IsSeeking xs c place at → at ≡ Some x →
    (x ≡ c → ⊥) → next ≡ slice_get xs (place + 1) → IsSeeking xs c (place + 1) next
IsSeeking-more xs c place x at next k e other n =
    let past : place ≡ k.index → ⊥ = λ q. other (same_Some x c (sym e ∙ k.at_place ∙ ap (slice_get xs) q ∙ k.here)) in
    record { at_place = n; index = k.index; ahead = let h = k.ahead in omega arith; here = k.here }

-- the list has not come to its end
pub IsSeeking-on : (xs : List ℕ) (c place : ℕ) (at : Option ℕ) → IsSeeking xs c place at → place < length xs
IsSeeking-on xs c place at k = let h = slice_get_within xs k.index c k.here in let a = k.ahead in omega arith
