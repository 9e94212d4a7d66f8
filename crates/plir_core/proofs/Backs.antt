-- The last child of a node, and what stands before a child: children in reverse.
use Rattle.std.proofs.Common.{◌≡◌, ℕ, zero, suc, Bool, true, false, cond, List, [], ◌∷◌, ◌++◌, map, length}
use Rattle.std.proofs.Common.{Option, Some, None, refl, sym, ◌∙◌, ap, subst, eq-eqb, reverse}
use Rattle.std.specs.Prelude.{option_map, slice_get}
use Rattle.std.proofs.lemmas.Bool.{ne_eqb}
use Rattle.std.proofs.lemmas.List.{reverse-append}
use Rattle.std.proofs.lemmas.Option.{same_Some, none-some}
use Rattle.plir_store.specs.Lists.{Lists, IsAgreed, children_at, last_from, prev_in, prev_of}
use Rattle.plir_store.specs.MemberLaws.{Has-at}
use Rattle.plir_store.specs.Members.{Has, Distinct, head}
use Rattle.plir_store.specs.Table.{Table, version_at, is_live_at}
use Rattle.plir_core.specs.declared.ptr.Ptr.{Ptr}
use Rattle.plir_core.specs.declared.ptr.IRNode.{IRNode}
use Rattle.plir_core.specs.declared.ptr.IRNode.TheVariants.{Operation, Region, BasicBlock}
use Rattle.plir_core.specs.Nodes.{Nodes, ptr_at, op_node, region_node, block_node, is_node_live}
use Rattle.plir_core.specs.Nodes.{node_children, node_last, node_prev}
use Rattle.plir_core.specs.Stored.{IsListing, IsStored}
use Rattle.plir_core.proofs.Facts.{live_at}
use Rattle.plir_core.proofs.ChildPlaces.{map_get, map_got, get_mid}

-- the first of a list, or a if it is empty
abbrev head_or : {A : Type 0} → Option A → List A → Option A
head_or a [] = a
head_or a (x ∷ xs) = Some x

head_or_none : {A : Type 0} (xs : List A) → head_or None xs ≡ head xs
head_or_none [] = refl
head_or_none (x ∷ xs) = refl

head_or_put : {A : Type 0} (a : Option A) (xs : List A) (x : A) → head_or a (xs ++ x ∷ []) ≡ head_or (Some x) xs
head_or_put a [] x = refl
head_or_put a (z ∷ zs) x = refl

-- a list with one more in front, in reverse
head_or_reverse : {A : Type 0} (a : Option A) (x : A) (xs : List A) →
    head_or a (reverse (x ∷ xs)) ≡ head_or (Some x) (reverse xs)
head_or_reverse a x xs = ap (head_or a) (reverse-append (x ∷ []) xs) ∙ head_or_put a (reverse xs) x

-- the last is the first in reverse
last_map : {A : Type 0} (f : ℕ → A) (a : Option ℕ) (xs : List ℕ) →
    option_map f (last_from a xs) ≡ head_or (option_map f a) (reverse (map f xs))
last_map f a [] = refl
last_map f a (x ∷ xs) = last_map f (Some x) xs ∙ sym (head_or_reverse (option_map f a) (f x) (map f xs))

last_in : (f : ℕ → IRNode) (b : Bool) (xs : List ℕ) →
    cond b (option_map f (last_from None xs)) None ≡ head (reverse (cond b (map f xs) []))
last_in f true xs = last_map f None xs ∙ head_or_none (reverse (map f xs))
last_in f false xs = refl

module _ {O B : Type 0} (s : Nodes O B) where
  pub last-head : (a : IRNode) → node_last s a ≡ head (reverse (node_children s a))
  last-head (Operation p) = last_in (region_node s) (is_node_live s (Operation p)) (children_at s.regions_in_op p.slot)
  last-head (Region p) = last_in (block_node s) (is_node_live s (Region p)) (children_at s.blocks_in_region p.slot)
  last-head (BasicBlock p) = last_in (op_node s) (is_node_live s (BasicBlock p)) (children_at s.ops_in_block p.slot)

-- what stands right before a place of a list, or a at its start
abbrev pub before_or : {A : Type 0} → Option A → List A → ℕ → Option A
before_or a xs zero = a
before_or a xs (suc i) = slice_get xs i

shift : {A : Type 0} (x : A) (xs : List A) (i : ℕ) → before_or (Some x) xs i ≡ slice_get (x ∷ xs) i
shift x xs zero = refl
shift x xs (suc i) = refl

prev_get : (a : Option ℕ) (xs : List ℕ) (c i : ℕ) → Distinct xs → slice_get xs i ≡ Some c →
    prev_in a xs c ≡ before_or a xs i
prev_get a [] c i d e = absurd (none-some c e)
prev_get a (x ∷ xs) c zero d e = rw (eq-eqb x c (same_Some x c e)) refl
prev_get a (x ∷ xs) c (suc i) d e =
    let n : x ≡ c → ⊥ = λ q. d.0 (subst (λ z. Has xs z) (sym q) (Has-at xs i c e)) in
    rw (ne_eqb x c n) (prev_get (Some x) xs c i d.1 e ∙ shift x xs i)

-- what stands before the child at a place is the child at the place before
prev_at : (s : Lists) → IsAgreed s → (p i c : ℕ) → slice_get (children_at s p) i ≡ Some c →
    prev_of s c ≡ before_or None (children_at s p) i
prev_at s a p i c e = rw (a.owned p c (Has-at (children_at s p) i c e)) (prev_get None (children_at s p) c i (a.apart p)
    e)

before_map : {A : Type 0} (f : ℕ → A) (xs : List ℕ) (i : ℕ) →
    option_map f (before_or None xs i) ≡ before_or None (map f xs) i
before_map f xs zero = refl
before_map f xs (suc i) = sym (map_get f xs i)

-- One of the three kinds of lists: `child` makes nodes of the pointers.
module _ {C P X : Type 0} (l : Lists) (t : Table C) (u : Table P) (w : IsListing l t u) (as_node : Ptr X → IRNode) where
  before_in : (b : Bool) (p i : ℕ) (x : IRNode) →
      slice_get (cond b (map (λ j. as_node (ptr_at t j)) (children_at l p)) []) i ≡ Some x →
      (c : ℕ) × ((as_node (ptr_at t c) ≡ x) × ((is_live_at t c (version_at t c) ≡ true) ×
      (option_map (λ j. as_node (ptr_at t j)) (prev_of l c) ≡
      before_or None (cond b (map (λ j. as_node (ptr_at t j)) (children_at l p)) []) i)))
  before_in false p i x e = absurd (none-some x e)
  before_in true p i x e =
      let f : ℕ → IRNode = λ j. as_node (ptr_at t j) in
      let r = map_got f (slice_get (children_at l p) i) x (sym (map_get f (children_at l p) i) ∙ e) in
      let owned = w.agreed.owned p r.0 (Has-at (children_at l p) i r.0 r.1.0) in
      let live = live_at t r.0 ((w.linked_live r.0 p owned).0) in
      let before = prev_at l w.agreed p i r.0 r.1.0 in
      (r.0, (r.1.1, (live, ap (option_map f) before ∙ before_map f (children_at l p) i)))

-- what stands right before what is behind a list is its last
before_mid : {A : Type 0} (a : Option A) (xs ys : List A) (x : A) →
    before_or a (xs ++ x ∷ ys) (length xs) ≡ head_or a (reverse xs)
before_mid a [] ys x = refl
before_mid a (z ∷ zs) ys x =
    sym (shift z (zs ++ x ∷ ys) (length zs)) ∙ before_mid (Some z) zs ys x ∙ sym (head_or_reverse a z zs)

module _ {O B : Type 0} (s : Nodes O B) (w : IsStored s) where
  pub prev-place : (a x : IRNode) (i : ℕ) → slice_get (node_children s a) i ≡ Some x →
      node_prev s x ≡ before_or None (node_children s a) i
  prev-place (Operation p) x i e =
      let live = is_node_live s (Operation p) in
      let r = before_in s.regions_in_op s.regions s.ops w.regions_listed Region live p.slot i x e in
      subst (λ z. node_prev s z ≡ before_or None (node_children s (Operation p)) i) r.1.0 (rw r.1.1.0 r.1.1.1)
  prev-place (Region p) x i e =
      let live = is_node_live s (Region p) in
      let r = before_in s.blocks_in_region s.blocks s.regions w.blocks_listed BasicBlock live p.slot i x e in
      subst (λ z. node_prev s z ≡ before_or None (node_children s (Region p)) i) r.1.0 (rw r.1.1.0 r.1.1.1)
  prev-place (BasicBlock p) x i e =
      let live = is_node_live s (BasicBlock p) in
      let r = before_in s.ops_in_block s.ops s.blocks w.ops_listed Operation live p.slot i x e in
      subst (λ z. node_prev s z ≡ before_or None (node_children s (BasicBlock p)) i) r.1.0 (rw r.1.1.0 r.1.1.1)

  pub prev-before : (a x : IRNode) (xs ys : List IRNode) → node_children s a ≡ xs ++ x ∷ ys →
      node_prev s x ≡ head (reverse xs)
  prev-before a x xs ys e =
      prev-place a x (length xs) (ap (λ z. slice_get z (length xs)) e ∙ get_mid xs ys x)
      ∙ ap (λ z. before_or None z (length xs)) e
      ∙ before_mid None xs ys x
      ∙ head_or_none (reverse xs)
