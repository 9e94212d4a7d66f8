-- One node without children is freed: what is live, who is whose child, and that the rest is still a forest.
use Rattle.std.proofs.Common.{◌≡◌, ℕ, Bool, true, false, cond, List, [], ◌∷◌, ◌++◌, map, length, Option, Some, None}
use Rattle.std.proofs.Common.{IsSome, is_some, ◌⊎◌, inl, inr, refl, sym, ◌∙◌, ap, eqb, length-set}
use Rattle.std.specs.Prelude.{option_map}
use Rattle.std.proofs.lemmas.Bool.{cases_eq, and_left}
use Rattle.plir_store.specs.Lists.{Lists, children_at, parent_at, without_child}
use Rattle.plir_store.specs.Table.{Table, content_at, version_at, is_live_at, without_slot}
use Rattle.plir_core.specs.declared.ptr.Ptr.{Ptr}
use Rattle.plir_core.specs.declared.ptr.IRNode.{IRNode}
use Rattle.plir_store.specs.Members.{Has}
use Rattle.plir_core.specs.Nodes.{ptr_at, is_given_out}
use Rattle.plir_core.specs.Stored.{IsListing}
use Rattle.plir_core.proofs.Facts.{live_parts, ptr_is}
use Rattle.plir_core.proofs.Listing.{IsMoved, IsListing-unlink, IsListing-free_child, content_without, content_gone}
use Rattle.plir_core.proofs.Listing.{version_without}
use Rattle.plir_core.proofs.Removal.{children_at-without_here, children_at-without_other, parent_at-without_here}
use Rattle.plir_core.proofs.Removal.{parent_at-without_other, IsAgreed-without, length-parents_without}
use Rattle.plir_core.proofs.Removal.{length-children_without, map-without, among}
use Rattle.plir_store.specs.MemberLaws.{Has-map}

-- equal functions on a list, and on an option
pub map-same : {A : Type 0} (f g : ℕ → A) → ((i : ℕ) → f i ≡ g i) → (xs : List ℕ) → map f xs ≡ map g xs
map-same f g e [] = refl
map-same f g e (x ∷ xs) = rw (e x, map-same f g e xs) refl

pub option_map-same : {A : Type 0} (f g : ℕ → A) → ((i : ℕ) → f i ≡ g i) → (o : Option ℕ) → option_map f o ≡ option_map
    g o
option_map-same f g e None = refl
option_map-same f g e (Some x) = ap (λ z. Some z) (e x)

-- the slot i of a table is freed
module _ {C : Type 0} (t : Table C) (i : ℕ) where
  pub ptr_without : {X : Type 0} (j : ℕ) → ptr_at {X = X} (without_slot t i) j ≡ ptr_at t j
  ptr_without {X} j = ap (λ v. let q : Ptr X = record { slot = j; version = v; kind = record {} } in q)
      (version_without t i j)

  pub given_without : {X : Type 0} (p : Ptr X) → is_given_out (without_slot t i) p ≡ is_given_out t p
  given_without p = rw (version_without t i p.slot) refl

  pub live_other : (j v : ℕ) → (j ≡ i → ⊥) → is_live_at (without_slot t i) j v ≡ is_live_at t j v
  live_other j v n = rw (content_without t i j n, version_without t i j) refl

  pub live_gone : (v : ℕ) → IsSome (content_at t i) → is_live_at (without_slot t i) i v ≡ false
  live_gone v some = and_left (is_some (content_at (without_slot t i) i)) (eqb (version_at (without_slot t i) i) v)
      (rw (content_gone t i some) refl)

  pub most_without : length (without_slot t i).slots ≡ length t.slots
  most_without = length-set t.slots i (record { version = version_at t i; content = None })

-- one of two live pointers to a slot is the other
pub ptr_one : {C X : Type 0} (t : Table C) (p q : Ptr X) → is_live_at t p.slot p.version ≡ true → is_live_at t q.slot
    q.version ≡ true → q.slot ≡ p.slot → q ≡ p
ptr_one {X} t p q ep eq e =
    sym (ptr_is t q eq) ∙ ap (λ j. let z : Ptr X = ptr_at t j in z) e ∙ ptr_is t p ep

pub bool_cases : (b : Bool) → (b ≡ true) ⊎ (b ≡ false)
bool_cases true = inl refl
bool_cases false = inr refl

-- no child, if what the list could hold is of another kind
pub wrong_child : (b : Bool) (f : ℕ → IRNode) (ks : List ℕ) (n : IRNode) → ((i : ℕ) → f i ≡ n → ⊥) → Has
    (cond b (map f ks) []) n → ⊥
wrong_child false f ks n wrong h = h
wrong_child true f ks n wrong h = let r = Has-map f ks n h in wrong r.0 r.1.1

pub map-nil : {A : Type 0} (f : ℕ → A) (ks : List ℕ) → map f ks ≡ [] → ks ≡ []
map-nil f [] e = refl
map-nil f (k ∷ ks) e = cc

-- a list of children by first making nodes of other pointers
pub children-made : (b : Bool) (f g : ℕ → IRNode) (ks : List ℕ) → ((i : ℕ) → f i ≡ g i) → cond b (map f ks) [] ≡ cond b
    (map g ks) []
children-made false f g ks e = refl
children-made true f g ks e = map-same f g e ks

pub parent-made : (b : Bool) (f g : ℕ → IRNode) (o : Option ℕ) → ((i : ℕ) → f i ≡ g i) → cond b (option_map f o) None ≡
    cond b (option_map g o) None
parent-made false f g o e = refl
parent-made true f g o e = option_map-same f g e o

-- One of the three kinds of lists, as one of its children is freed.
module _ {C P X : Type 0} (l : Lists) (t : Table C) (u : Table P) (w : IsListing l t u) (p : Ptr X)
    (live : is_live_at t p.slot p.version ≡ true) where
  abbrev seated : IsSome (content_at t p.slot)
  seated = (live_parts t p.slot p.version live).0

  pub moved_out : IsMoved l (without_child l p.slot) p.slot None
  moved_out = record {
    parents = length-parents_without l w.agreed p.slot;
    children = length-children_without l w.agreed p.slot;
    here = parent_at-without_here l w.agreed p.slot;
    other = λ x n. parent_at-without_other l w.agreed p.slot x n;
  }

  pub IsListing-without : IsListing (without_child l p.slot) (without_slot t p.slot) u
  IsListing-without =
      let a = IsAgreed-without l w.agreed p.slot in
      IsListing-free_child (without_child l p.slot) t u (IsListing-unlink l t u w (without_child l p.slot) p.slot
      moved_out a) p.slot (parent_at-without_here l w.agreed p.slot)

  -- whether another node is live
  pub live_same : (q : Ptr X) → (q ≡ p → ⊥) → is_live_at (without_slot t p.slot) q.slot q.version ≡ is_live_at t q.slot
      q.version
  live_same q n = elim (cases_eq q.slot p.slot) [
    | inl e ↦ elim (bool_cases (is_live_at t q.slot q.version)) [
      | inl f ↦ absurd (n (ptr_one t p q live f e))
      | inr f ↦ ap (λ j. is_live_at (without_slot t p.slot) j q.version) e ∙ live_gone t p.slot q.version seated ∙ sym f
    ]
    | inr m ↦ live_other t p.slot q.slot q.version m
  ]

  pub live_none : is_live_at (without_slot t p.slot) p.slot p.version ≡ false
  live_none = live_gone t p.slot p.version seated

  -- the parent of another node
  pub parent_same : (over : ℕ → IRNode) (q : Ptr X) → (q ≡ p → ⊥) → cond (is_live_at (without_slot t p.slot) q.slot
      q.version) (option_map over (parent_at (without_child l p.slot) q.slot)) None ≡ cond
      (is_live_at t q.slot q.version) (option_map over (parent_at l q.slot)) None
  parent_same over q n = elim (cases_eq q.slot p.slot) [
    | inl e ↦ elim (bool_cases (is_live_at t q.slot q.version)) [
      | inl f ↦ absurd (n (ptr_one t p q live f e))
      | inr f ↦ rw (live_same q n, f) refl
    ]
    | inr m ↦ rw (live_same q n, parent_at-without_other l w.agreed p.slot q.slot m) refl
  ]

  -- the children of a node of its own kind, of which it had none
  pub children_below : (children : ℕ → List IRNode) → children p.slot ≡ [] → (q : Ptr X) → cond
      (is_live_at (without_slot t p.slot) q.slot q.version) (children q.slot) [] ≡ cond (is_live_at t q.slot q.version)
      (children q.slot) []
  children_below children none q = elim (cases_eq q.slot p.slot) [
    | inl e ↦ rw (ap children e ∙ none) (nil (is_live_at (without_slot t p.slot) q.slot q.version)
        (is_live_at t q.slot q.version))
    | inr m ↦ rw (live_other t p.slot q.slot q.version m) refl
  ]
    where
      nil : (a b : Bool) → ◌≡◌ {A = List IRNode} (cond a [] []) (cond b [] [])
      nil true true = refl
      nil true false = refl
      nil false true = refl
      nil false false = refl

  module _ (as_node : Ptr X → IRNode) (one : (i j : ℕ) → as_node (ptr_at t i) ≡ as_node (ptr_at t j) → i ≡ j) where
    abbrev child : ℕ → IRNode
    child i = as_node (ptr_at t i)

    abbrev child' : ℕ → IRNode
    child' i = as_node (ptr_at (without_slot t p.slot) i)

    child_same : (i : ℕ) → child' i ≡ child i
    child_same i = ap as_node (ptr_without t p.slot i)

    -- the children of the parent, once it has left its list
    pub children_taken : (b : Bool) (j : ℕ) (xs ys : List IRNode) → cond b (map child (children_at l j)) [] ≡ xs ++
        as_node p ∷ ys → cond b (map child (children_at (without_child l p.slot) j)) [] ≡ xs ++ ys
    children_taken false j [] ys e = cc
    children_taken false j (x ∷ xs) ys e = cc
    children_taken true j xs ys e =
        let at : map child (children_at l j) ≡ xs ++ child p.slot ∷ ys = e ∙ ap
        (λ z. xs ++ as_node z ∷ ys) (sym (ptr_is t p live)) in
        let under : parent_at l p.slot ≡ Some j = w.agreed.owned j p.slot (among child one p.slot (children_at l j) xs
        ys at) in
        ap (map child) (children_at-without_here l w.agreed p.slot j under) ∙ map-without child one p.slot
        (children_at l j) xs ys (w.agreed.apart j) at

    -- and once its slot is free
    pub children_here : (b : Bool) (j : ℕ) (xs ys : List IRNode) → cond b (map child (children_at l j)) [] ≡ xs ++
        as_node p ∷ ys → cond b (map child' (children_at (without_child l p.slot) j)) [] ≡ xs ++ ys
    children_here b j xs ys e =
        ap (λ ks. cond b ks []) (map-same child' child child_same (children_at (without_child l p.slot) j))
        ∙ children_taken b j xs ys e

    -- the children of any other node
    pub children_other : (j : ℕ) → (parent_at l p.slot ≡ Some j → ⊥) → map child'
        (children_at (without_child l p.slot) j) ≡ map child (children_at l j)
    children_other j n = map-same child' child child_same (children_at (without_child l p.slot) j) ∙ ap (map child)
        (children_at-without_other l w.agreed p.slot j n)

    pub children_away : {Y : Type 0} (over : Ptr Y → IRNode) (q : Ptr Y) → (cond (is_live_at t p.slot p.version)
        (option_map (λ i. over (ptr_at u i)) (parent_at l p.slot)) None ≡ Some (over q) → ⊥) → cond
        (is_live_at u q.slot q.version) (map child' (children_at (without_child l p.slot) q.slot)) [] ≡ cond
        (is_live_at u q.slot q.version) (map child (children_at l q.slot)) []
    children_away over q away = elim (bool_cases (is_live_at u q.slot q.version)) [
      | inl f ↦ rw (f, children_other q.slot (λ e. away (rw (live, e) (ap (λ z. Some (over z)) (ptr_is u q f))))) refl
      | inr f ↦ rw f refl
    ]
