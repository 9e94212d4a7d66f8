-- The links of a node, by the lists of children.
use Rattle.std.proofs.Common.{◌≡◌, ℕ, Bool, true, false, cond, List, [], ◌∷◌, ◌++◌, map, reverse, Option, Some, None}
use Rattle.std.proofs.Common.{inl, inr, refl, sym, ap, subst, ◌∙◌, append_assoc}
use Rattle.std.specs.Prelude.{option_map, option_and_then}
use Rattle.std.proofs.lemmas.Bool.Decides.{eqb_tells}
use Rattle.std.proofs.lemmas.List.{reverse-append, map-append}
use Rattle.plir_store.specs.Lists.{Lists, last_from, last_of, next_in, prev_in, next_of, prev_of, next_under}
use Rattle.plir_store.specs.Lists.{prev_under, children_at, parent_at}
use Rattle.plir_store.specs.Table.{Table, is_live_at}
use Rattle.plir_core.specs.declared.ptr.Ptr.{Ptr}
use Rattle.plir_core.specs.declared.ptr.IRNode.{IRNode}
use Rattle.plir_core.specs.declared.ptr.IRNode.TheVariants.{Operation, Region, BasicBlock}
use Rattle.plir_store.specs.MemberLaws.{Distinct-cross, Distinct-map}
use Rattle.plir_store.specs.Members.{Has, Distinct, head}
use Rattle.plir_core.specs.Nodes.{Nodes, ptr_at, is_node_live, node_children, node_parent, node_first, node_last}
use Rattle.plir_core.specs.Nodes.{node_next, node_prev, op_node, block_node, region_node}
use Rattle.plir_core.specs.Stored.{IsListing, IsStored}
use Rattle.plir_walk.specs.Step.{after}
use Rattle.plir_walk.proofs.Nodes.{same_tells, after-at}
use Rattle.plir_walk.proofs.Slots.{live_at, ptr_is}
use Rattle.plir_walk.proofs.Steps.{Distinct-reverse}

-- a list of numbers cut at one of them
record Cut (x : ℕ) (xs : List ℕ) : Type 0 where
  front : List ℕ
  back : List ℕ
  whole : xs ≡ front ++ x ∷ back

cut : (x : ℕ) (xs : List ℕ) → Has xs x → Cut x xs
cut x [] i = absurd i
cut x (z ∷ zs) (inl e) = record { front = []; back = zs; whole = ap (λ w. w ∷ zs) e }
cut x (z ∷ zs) (inr j) = (let t = cut x zs j in record {
  front = z ∷ t.front;
  back = t.back;
  whole = ap
      (λ ws. z ∷ ws) t.whole;
})

-- the first of the two that is there
abbrev pub first_or : {A : Type 0} → Option A → Option A → Option A
first_or None d = d
first_or (Some a) d = Some a

pub head-map : {A : Type 0} (f : ℕ → A) (xs : List ℕ) → head (map f xs) ≡ option_map f (head xs)
head-map f [] = refl
head-map f (x ∷ xs) = refl

pub head-end : {A : Type 0} (us : List A) (z : A) (d : Option A) → first_or (head (us ++ z ∷ [])) d ≡ first_or (head us)
    (Some z)
head-end [] z d = refl
head-end (u ∷ us) z d = refl

pub last-or : {A : Type 0} (f : ℕ → A) (xs : List ℕ) (a : Option ℕ) → first_or (head (reverse (map f xs)))
    (option_map f a) ≡ option_map f (last_from a xs)
last-or f [] a = refl
last-or f (x ∷ xs) a = rw (reverse-append (f x ∷ []) (map f xs)) (head-end (reverse (map f xs)) (f x) (option_map f a) ∙
    last-or f xs (Some x))

pub or-none : {A : Type 0} (o : Option A) → first_or o None ≡ o
or-none None = refl
or-none (Some a) = refl

pub last-map : {A : Type 0} (f : ℕ → A) (xs : List ℕ) → head (reverse (map f xs)) ≡ option_map f (last_of xs)
last-map f xs = sym (or-none (head (reverse (map f xs)))) ∙ last-or f xs None

pub prev-cut : (c : ℕ) (front back : List ℕ) (a : Option ℕ) → (Has front c → ⊥) → prev_in a (front ++ c ∷ back) c ≡
    last_from a front
prev-cut c [] back a n = elim (eqb_tells c c) [ inl e ↦ rw e.0 refl | inr e ↦ absurd (e.1 refl) ]
prev-cut c (x ∷ front) back a n = elim (eqb_tells x c) [
  | inl e ↦ absurd (n (inl e.1))
  | inr e ↦ rw e.0 (prev-cut c front back (Some x) (λ i. n (inr i)))
]

module _ (f : ℕ → IRNode) (one : (i j : ℕ) → f i ≡ f j → i ≡ j) where
  pub after-map : (xs : List ℕ) (c : ℕ) → after (f c) (map f xs) ≡ option_map f (next_in xs c)
  after-map [] c = refl
  after-map (x ∷ xs) c = elim (same_tells (f x) (f c)) [
    | inl e ↦ elim (eqb_tells x c) [ inl g ↦ rw (e.0, g.0) (head-map f xs) | inr g ↦ absurd (g.1 (one x c e.1)) ]
    | inr e ↦ elim (eqb_tells x c) [ inl g ↦ absurd (e.1 (ap f g.1)) | inr g ↦ rw (e.0, g.0) (after-map xs c) ]
  ]

  pub before-map : (xs : List ℕ) (c : ℕ) → Distinct xs → Has xs c → after (f c) (reverse (map f xs)) ≡ option_map f
      (prev_in None xs c)
  before-map xs c d i =
      let k : Cut c xs = cut c xs i in
      let fs : List IRNode = map f k.front in
      let bs : List IRNode = map f k.back in
      let split : map f xs ≡ fs ++ f c ∷ bs = ap (map f) k.whole ∙ map-append f k.front (c ∷ k.back) in
      let turned : reverse (map f xs) ≡ reverse bs ++ f c ∷ reverse fs = ap reverse split ∙ turn fs (f c) bs in
      let apart : Distinct (reverse bs ++ f c ∷ reverse fs) = subst
      (λ (v : List IRNode). Distinct v) turned (Distinct-reverse (map f xs) (Distinct-map f one xs d)) in
      let d' : Distinct (k.front ++ c ∷ k.back) = subst (λ (v : List ℕ). Distinct v) k.whole d in
      ap (after (f c)) turned ∙ (after-at (reverse bs) (f c) (reverse fs) apart
      ∙ (last-map f k.front ∙ sym (ap (option_map f) (ap (λ (v : List ℕ). prev_in None v c) k.whole ∙ prev-cut c k.front
      k.back None (λ i. Distinct-cross k.front (c ∷ k.back) d' c i (inl refl))))))
    where
      turn : (fs : List IRNode) (c : IRNode) (bs : List IRNode) → reverse (fs ++ c ∷ bs) ≡ reverse bs ++ c ∷ reverse fs
      turn fs c bs = reverse-append fs (c ∷ bs) ∙ (ap (λ (v : List IRNode). v ++ reverse fs)
          (reverse-append (c ∷ []) bs) ∙ append_assoc (reverse bs) (c ∷ []) (reverse fs))

-- One of the three kinds of lists: `child` and `over` make nodes of the pointers.
module _ {C P X Y : Type 0} (l : Lists) (t : Table C) (u : Table P) (w : IsListing l t u) (child : Ptr X → IRNode)
    (over : Ptr Y → IRNode)
    (one : (i j : ℕ) → child (ptr_at t i) ≡ child (ptr_at t j) → i ≡ j)
    (children : IRNode → List IRNode) (children_are : (q : Ptr Y) → children (over q) ≡ cond
    (is_live_at u q.slot q.version) (map (λ i. child (ptr_at t i)) (children_at l q.slot)) []) where
  children_over : (p b : ℕ) → parent_at l p ≡ Some b → children (over (ptr_at u b)) ≡ map
      (λ i. child (ptr_at t i)) (children_at l b)
  children_over p b h = children_are (ptr_at u b) ∙ (let e = live_at u b ((w.linked_live p b h).1) in rw e refl)

  next-under : (p : ℕ) (o : Option ℕ) → parent_at l p ≡ o
      → option_map (λ i. child (ptr_at t i)) (next_under l p o) ≡ option_and_then
      (λ a. after (child (ptr_at t p)) (children a)) (option_map (λ i. over (ptr_at u i)) o)
  next-under p None h = refl
  next-under p (Some b) h = sym (ap (after (child (ptr_at t p))) (children_over p b h) ∙ after-map
      (λ i. child (ptr_at t i)) one (children_at l b) p)

  prev-under : (p : ℕ) (o : Option ℕ) → parent_at l p ≡ o
      → option_map (λ i. child (ptr_at t i)) (prev_under l p o) ≡ option_and_then
      (λ a. after (child (ptr_at t p)) (reverse (children a))) (option_map (λ i. over (ptr_at u i)) o)
  prev-under p None h = refl
  prev-under p (Some b) h = sym (ap (λ (v : List IRNode). after (child (ptr_at t p)) (reverse v)) (children_over p b h)
      ∙ before-map (λ i. child (ptr_at t i)) one (children_at l b) p (w.agreed.apart b) (w.agreed.held b p h))

  pub next-word : (p : Ptr X) → is_live_at t p.slot p.version ≡ true
      → cond (is_live_at t p.slot p.version) (option_map (λ i. child (ptr_at t i)) (next_of l p.slot)) None
      ≡ option_and_then (λ a. after (child p) (children a)) (cond (is_live_at t p.slot p.version)
      (option_map (λ i. over (ptr_at u i)) (parent_at l p.slot)) None)
  next-word p e = rw e (next-under p.slot (parent_at l p.slot) refl ∙ ap (λ (v : Ptr X). option_and_then
      (λ a. after (child v) (children a)) (option_map (λ i. over (ptr_at u i)) (parent_at l p.slot))) (ptr_is t p e))

  pub prev-word : (p : Ptr X) → is_live_at t p.slot p.version ≡ true
      → cond (is_live_at t p.slot p.version) (option_map (λ i. child (ptr_at t i)) (prev_of l p.slot)) None
      ≡ option_and_then (λ a. after (child p) (reverse (children a))) (cond (is_live_at t p.slot p.version)
      (option_map (λ i. over (ptr_at u i)) (parent_at l p.slot)) None)
  prev-word p e = rw e (prev-under p.slot (parent_at l p.slot) refl ∙ ap (λ (v : Ptr X). option_and_then
      (λ a. after (child v) (reverse (children a))) (option_map (λ i. over (ptr_at u i)) (parent_at l p.slot)))
      (ptr_is t p e))

abbrev slot_of : IRNode → ℕ
slot_of (Operation p) = p.slot
slot_of (Region p) = p.slot
slot_of (BasicBlock p) = p.slot

pub head-cond : {A : Type 0} (b : Bool) (f : ℕ → A) (xs : List ℕ) → cond b (option_map f (head xs)) None ≡ head
    (cond b (map f xs) [])
head-cond true f xs = sym (head-map f xs)
head-cond false f xs = refl

pub last-cond : {A : Type 0} (b : Bool) (f : ℕ → A) (xs : List ℕ) → cond b (option_map f (last_of xs)) None ≡ head
    (reverse (cond b (map f xs) []))
last-cond true f xs = sym (last-map f xs)
last-cond false f xs = refl

module _ {O B : Type 0} (s : Nodes O B) where
  pub first-is : (n : IRNode) → node_first s n ≡ head (node_children s n)
  first-is (Operation p) = head-cond (is_live_at s.ops p.slot p.version) (region_node s)
      (children_at s.regions_in_op p.slot)
  first-is (Region p) = head-cond (is_live_at s.regions p.slot p.version) (block_node s)
      (children_at s.blocks_in_region p.slot)
  first-is (BasicBlock p) = head-cond (is_live_at s.blocks p.slot p.version) (op_node s)
      (children_at s.ops_in_block p.slot)

  pub last-is : (n : IRNode) → node_last s n ≡ head (reverse (node_children s n))
  last-is (Operation p) = last-cond (is_live_at s.ops p.slot p.version) (region_node s)
      (children_at s.regions_in_op p.slot)
  last-is (Region p) = last-cond (is_live_at s.regions p.slot p.version) (block_node s)
      (children_at s.blocks_in_region p.slot)
  last-is (BasicBlock p) = last-cond (is_live_at s.blocks p.slot p.version) (op_node s)
      (children_at s.ops_in_block p.slot)

module _ {O B : Type 0} (s : Nodes O B) (w : IsStored s) where
  pub next-is : (n : IRNode) → is_node_live s n ≡ true → node_next s n ≡ option_and_then
      (λ a. after n (node_children s a)) (node_parent s n)
  next-is (Operation p) e = next-word s.ops_in_block s.ops s.blocks w.ops_listed Operation BasicBlock
      (λ i j g. ap slot_of g) (node_children s) (λ q. refl) p e
  next-is (Region p) e = next-word s.regions_in_op s.regions s.ops w.regions_listed Region Operation
      (λ i j g. ap slot_of g) (node_children s) (λ q. refl) p e
  next-is (BasicBlock p) e = next-word s.blocks_in_region s.blocks s.regions w.blocks_listed BasicBlock Region
      (λ i j g. ap slot_of g) (node_children s) (λ q. refl) p e

  pub prev-is : (n : IRNode) → is_node_live s n ≡ true → node_prev s n ≡ option_and_then
      (λ a. after n (reverse (node_children s a))) (node_parent s n)
  prev-is (Operation p) e = prev-word s.ops_in_block s.ops s.blocks w.ops_listed Operation BasicBlock
      (λ i j g. ap slot_of g) (node_children s) (λ q. refl) p e
  prev-is (Region p) e = prev-word s.regions_in_op s.regions s.ops w.regions_listed Region Operation
      (λ i j g. ap slot_of g) (node_children s) (λ q. refl) p e
  prev-is (BasicBlock p) e = prev-word s.blocks_in_region s.blocks s.regions w.blocks_listed BasicBlock Region
      (λ i j g. ap slot_of g) (node_children s) (λ q. refl) p e
