-- What follows a child by its place.
use Rattle.std.proofs.Common.{◌≡◌, ℕ, zero, suc, ◌+◌, Bool, true, false, cond, List, [], ◌∷◌, ◌++◌, map, length, Option}
use Rattle.std.proofs.Common.{Some, None, refl, sym, ◌∙◌, ap, subst, add-one}
use Rattle.std.specs.Prelude.{option_map, slice_get}
use Rattle.std.proofs.lemmas.Option.{same_Some, none-some}
use Rattle.plir_store.specs.Lists.{Lists, children_at, next_of}
use Rattle.plir_store.specs.Table.{Table, version_at, is_live_at}
use Rattle.plir_core.specs.declared.ptr.Ptr.{Ptr}
use Rattle.plir_core.specs.declared.ptr.IRNode.{IRNode}
use Rattle.plir_core.specs.declared.ptr.IRNode.TheVariants.{Operation, Region, BasicBlock}
use Rattle.plir_store.specs.Members.{head}
use Rattle.plir_core.specs.Nodes.{Nodes, ptr_at, op_node, region_node, block_node, is_node_live, node_children}
use Rattle.plir_core.specs.Nodes.{node_first, node_next}
use Rattle.plir_core.specs.Stored.{IsListing, IsStored}
use Rattle.plir_core.proofs.Facts.{live_at}
use Rattle.plir_core.proofs.Siblings.{next_at}
use Rattle.plir_store.specs.MemberLaws.{Has-at}

pub map_get : {A : Type 0} (f : ℕ → A) (xs : List ℕ) (i : ℕ) → slice_get (map f xs) i ≡ option_map f (slice_get xs i)
map_get f [] i = refl
map_get f (x ∷ xs) zero = refl
map_get f (x ∷ xs) (suc i) = map_get f xs i

pub map_got : {A : Type 0} (f : ℕ → A) (o : Option ℕ) (x : A) → option_map f o ≡ Some x → (i : ℕ) ×
    ((o ≡ Some i) × (f i ≡ x))
map_got f None x e = absurd (none-some x e)
map_got f (Some i) x e = (i, (refl, same_Some (f i) x e))

-- One of the three kinds of lists: `child` makes nodes of the pointers, and `look` gives the slot of each.
module _ {C P X : Type 0} (l : Lists) (t : Table C) (u : Table P) (w : IsListing l t u) (as_node : Ptr X → IRNode) where
  after_in : (b : Bool) (p i : ℕ) (x : IRNode) → slice_get (cond b (map (λ j. as_node (ptr_at t j)) (children_at l p))
      []) i ≡ Some x → (c : ℕ) × ((as_node (ptr_at t c) ≡ x) × ((is_live_at t c (version_at t c) ≡ true) ×
      (option_map (λ j. as_node (ptr_at t j)) (next_of l c) ≡ slice_get (cond b (map (λ j. as_node (ptr_at t j))
      (children_at l p)) []) (i + 1))))
  after_in false p i x e = absurd (none-some x e)
  after_in true p i x e =
      let f : ℕ → IRNode = λ j. as_node (ptr_at t j) in
      let r = map_got f (slice_get (children_at l p) i) x (sym (map_get f (children_at l p) i) ∙ e) in
      let live = live_at t r.0 ((w.linked_live r.0 p (w.agreed.owned p r.0 (Has-at (children_at l p) i r.0 r.1.0))).0)
      in (
        r.0,
        (
          r.1.1,
          (
            live,
            ap (option_map f) (next_at l w.agreed p i r.0 r.1.0) ∙ sym
                (map_get f (children_at l p) (i + 1)),
          ),
        ),
      )

module _ {O B : Type 0} (s : Nodes O B) (w : IsStored s) where
  -- what follows the child at a place is the child at the next place
  pub next-place : (a x : IRNode) (i : ℕ) → slice_get (node_children s a) i ≡ Some x → node_next s x ≡ slice_get
      (node_children s a) (i + 1)
  next-place (Operation p) x i e =
      let r = after_in s.regions_in_op s.regions s.ops w.regions_listed Region (is_node_live s (Operation p)) p.slot i x
      e in
      subst (λ z. node_next s z ≡ slice_get (node_children s (Operation p)) (i + 1)) r.1.0 (rw r.1.1.0 r.1.1.1)
  next-place (Region p) x i e =
      let r = after_in s.blocks_in_region s.blocks s.regions w.blocks_listed BasicBlock (is_node_live s (Region p))
      p.slot i x e in
      subst (λ z. node_next s z ≡ slice_get (node_children s (Region p)) (i + 1)) r.1.0 (rw r.1.1.0 r.1.1.1)
  next-place (BasicBlock p) x i e =
      let r = after_in s.ops_in_block s.ops s.blocks w.ops_listed Operation (is_node_live s (BasicBlock p)) p.slot i x e
      in
      subst (λ z. node_next s z ≡ slice_get (node_children s (BasicBlock p)) (i + 1)) r.1.0 (rw r.1.1.0 r.1.1.1)

-- the element behind a list, and what stands right behind that
pub get_mid : {A : Type 0} (xs ys : List A) (x : A) → slice_get (xs ++ x ∷ ys) (length xs) ≡ Some x
get_mid [] ys x = refl
get_mid (z ∷ zs) ys x = get_mid zs ys x

get_behind : {A : Type 0} (xs ys : List A) (x : A) → slice_get (xs ++ x ∷ ys) (suc (length xs)) ≡ head ys
get_behind [] [] x = refl
get_behind [] (y ∷ ys) x = refl
get_behind (z ∷ zs) ys x = get_behind zs ys x

module _ {O B : Type 0} (s : Nodes O B) (w : IsStored s) where
  pub next-behind : (a x : IRNode) (xs ys : List IRNode) → node_children s a ≡ xs ++ x ∷ ys → node_next s x ≡ head ys
  next-behind a x xs ys e =
      next-place s w a x (length xs) (ap (λ z. slice_get z (length xs)) e ∙ get_mid xs ys x)
      ∙ ap (slice_get (node_children s a)) (add-one (length xs))
      ∙ ap (λ z. slice_get z (suc (length xs))) e
      ∙ get_behind xs ys x

-- the first of a list is at the place 0
pub front : {A : Type 0} (xs : List A) → head xs ≡ slice_get xs 0
front [] = refl
front (x ∷ xs) = refl

first_in : (f : ℕ → IRNode) (b : Bool) (xs : List ℕ) → cond b (option_map f (head xs)) None ≡ head
    (cond b (map f xs) [])
first_in f true [] = refl
first_in f true (x ∷ xs) = refl
first_in f false xs = refl

module _ {O B : Type 0} (s : Nodes O B) where
  pub first-head : (a : IRNode) → node_first s a ≡ head (node_children s a)
  first-head (Operation p) = first_in (region_node s) (is_node_live s (Operation p))
      (children_at s.regions_in_op p.slot)
  first-head (Region p) = first_in (block_node s) (is_node_live s (Region p)) (children_at s.blocks_in_region p.slot)
  first-head (BasicBlock p) = first_in (op_node s) (is_node_live s (BasicBlock p)) (children_at s.ops_in_block p.slot)

  -- the first child as a getter answers it
  pub first_is : {X : Type 0} (a : IRNode) (f : X → IRNode) (r o : Option X) → option_map f r ≡ node_first s a → r ≡ o →
      head (node_children s a) ≡ option_map f o
  first_is a f r o e is = sym (first-head a) ∙ sym e ∙ ap (option_map f) is

  pub first-place : (a : IRNode) → node_first s a ≡ slice_get (node_children s a) 0
  first-place a = first-head a ∙ front (node_children s a)
