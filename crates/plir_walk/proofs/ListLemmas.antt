-- Pairs of elements of a list.
use Rattle.std.proofs.Common.{List, [], ◌∷◌, ◌++◌, inl, inr, refl, subst}
use Rattle.plir_walk.specs.Lists.{Pairs}
use Rattle.plir_store.specs.MemberLaws.{Has-append_left, Has-append_right, Has-append_cases}
use Rattle.plir_store.specs.Members.{Has}

pub Pairs-append : {A : Type 0} (R : A → A → Type 0) (xs ys : List A) → Pairs R xs → Pairs R ys →
    ((a b : A) → Has xs a → Has ys b → R a b) → Pairs R (xs ++ ys)
Pairs-append R [] ys p q c = q
Pairs-append R (x ∷ xs) ys p q c = (
  λ y h. elim (Has-append_cases xs ys y h) [ inl a ↦ p.0 y a | inr b ↦ c x y (inl refl) b ],
  Pairs-append R xs ys p.1 q (λ a b h k. c a b (inr h) k),
)

pub Pairs-map : {A : Type 0} (R Q : A → A → Type 0) (xs : List A) → ((a b : A) → R a b → Q a b) → Pairs R xs → Pairs Q
    xs
Pairs-map R Q [] f p = tt
Pairs-map R Q (x ∷ xs) f p = (λ y h. f x y (p.0 y h), Pairs-map R Q xs f p.1)

-- the two halves of the pairs of an append
pub Pairs-cross : {A : Type 0} (R : A → A → Type 0) (xs ys : List A) → Pairs R (xs ++ ys) → (a b : A) → Has xs a → Has
    ys b → R a b
Pairs-cross R [] ys p a b h k = absurd h
Pairs-cross R (x ∷ xs) ys p a b (inl e) k = subst (λ (v : _). R v b) e (p.0 b (Has-append_right xs ys b k))
Pairs-cross R (x ∷ xs) ys p a b (inr h) k = Pairs-cross R xs ys p.1 a b h k

pub Pairs-left : {A : Type 0} (R : A → A → Type 0) (xs ys : List A) → Pairs R (xs ++ ys) → Pairs R xs
Pairs-left R [] ys p = tt
Pairs-left R (x ∷ xs) ys p = (λ y h. p.0 y (Has-append_left xs ys y h), Pairs-left R xs ys p.1)
