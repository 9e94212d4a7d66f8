-- Nodes and lists: what is told apart, and lists that end with an element.
use Rattle.std.proofs.Common.{◌≡◌, ℕ, true≢false, ◌<◌, ◌⊎◌, inl, inr, refl, sym, ap, subst, ◌∙◌}
use Rattle.std.proofs.Common.{List, [], ◌∷◌, ◌++◌, map, length, Option, Some, None}
use Rattle.std.specs.Prelude.{IsSome, reverse, slice_index_or, Contains}
use Rattle.std.proofs.lemmas.List.{reverse-append, reverse-reverse}
use Rattle.std.proofs.lemmas.Option.{none-some, same_Some, slice_get-get_or}
use Rattle.plir_store.specs.Members.{Has, head}
use Rattle.plir_store.specs.MemberLaws.{Has-at}
use Rattle.plir_core.specs.declared.ptr.Ptr.{Ptr}
use Rattle.plir_core.specs.declared.ptr.IRNode.{IRNode}
use Rattle.plir_core.specs.declared.ptr.IRNode.TheVariants.{Operation, Region, BasicBlock}
use Rattle.plir_core.specs.SameValue.{same_ptr, ptr-exact}
use Rattle.plir_inline.proofs.GivenValues.{bool_cases}

-- two pointers are the same or not
pub ptr-told : {X : Type 0} (p q : Ptr X) → (p ≡ q) ⊎ (p ≡ q → ⊥)
ptr-told p q = elim (bool_cases (same_ptr p q)) [
  | inl e ↦ inl ((ptr-exact p q).0 e)
  | inr e ↦ inr (λ h. true≢false (sym ((ptr-exact p q).1 h) ∙ e))
]

-- and so are two nodes
pub node-told : (m n : IRNode) → (m ≡ n) ⊎ (m ≡ n → ⊥)
node-told (Operation p) (Operation q) = elim (ptr-told p q) [
  | inl e ↦ inl (ap Operation e)
  | inr off ↦ inr (λ h. off (let e : p ≡ q = cc in e))
]
node-told (Region p) (Region q) = elim (ptr-told p q) [
  | inl e ↦ inl (ap Region e)
  | inr off ↦ inr (λ h. off (let e : p ≡ q = cc in e))
]
node-told (BasicBlock p) (BasicBlock q) = elim (ptr-told p q) [
  | inl e ↦ inl (ap BasicBlock e)
  | inr off ↦ inr (λ h. off (let e : p ≡ q = cc in e))
]
node-told (Operation p) (Region q) = inr (λ h. cc)
node-told (Operation p) (BasicBlock q) = inr (λ h. cc)
node-told (Region p) (Operation q) = inr (λ h. cc)
node-told (Region p) (BasicBlock q) = inr (λ h. cc)
node-told (BasicBlock p) (Operation q) = inr (λ h. cc)
node-told (BasicBlock p) (Region q) = inr (λ h. cc)

pub op-same : (p q : Ptr _) → Operation p ≡ Operation q → p ≡ q
op-same p q h = cc

pub block-same : (p q : Ptr _) → BasicBlock p ≡ BasicBlock q → p ≡ q
block-same p q h = cc

pub some-of : {X : Type 0} (o : Option X) → IsSome o → (x : X) × (o ≡ Some x)
some-of None h = absurd (true≢false (sym h))
some-of (Some x) h = (x, refl)

module _ {X : Type 0} where
  -- the last element stands first in the reversed list
  pub back : (xs : List X) (x : X) → head (reverse (xs ++ x ∷ [])) ≡ Some x
  back xs x = ap head (reverse-append xs (x ∷ []))

  pub append-none : (xs : List X) → xs ++ [] ≡ xs
  append-none [] = refl
  append-none (x ∷ xs) = ap (λ zs. x ∷ zs) (append-none xs)

  pub contained : (xs : List X) (x : X) → Contains xs x → Has xs x
  contained xs x h =
      subst (Has xs) h.2 (Has-at xs h.0 (slice_index_or xs h.0 x) (slice_get-get_or xs h.0 x h.1))

  pub has-index : (xs : List X) (k : ℕ) (d : X) → k < length xs → Has xs (slice_index_or xs k d)
  has-index xs k d h = Has-at xs k (slice_index_or xs k d) (slice_get-get_or xs k d h)

pub map-end : {X Y : Type 0} (f : X → Y) (xs : List X) (x : X) → map f (xs ++ x ∷ []) ≡ map f xs ++ f x ∷ []
map-end f [] x = refl
map-end f (y ∷ xs) x = ap (λ zs. f y ∷ zs) (map-end f xs x)

-- what stands first in the reversed list is the last element
pub from-back : {X : Type 0} (xs : List X) (x : X) → head (reverse xs) ≡ Some x → (front : List X) × (xs ≡ front ++ x ∷ [])
from-back xs x e = go (reverse xs) refl e
  where
    go : (zs : List _) → reverse xs ≡ zs → head zs ≡ Some x → (front : List _) × (xs ≡ front ++ x ∷ [])
    go [] r h = absurd (none-some x h)
    go (z ∷ zs) r h =
        (reverse zs, sym (reverse-reverse xs) ∙ ap reverse r ∙ reverse-append (z ∷ []) zs ∙ ap (λ y. reverse zs ++ y ∷ []) (same_Some z x h))
