-- What a getter answers is live.
use Rattle.std.proofs.Common.{◌≡◌, ℕ, Bool, true, false, cond, eqb, List, [], ◌∷◌, map, Option, Some, None, ◌⊎◌, inl}
use Rattle.std.proofs.Common.{inr, refl, sym, ◌∙◌, ap, subst}
use Rattle.std.specs.Prelude.{option_map, slice_get, IfSome}
use Rattle.std.proofs.lemmas.Option.{same_Some, none-some}
use Rattle.plir_store.specs.Lists.{Lists, children_at, parent_at, last_from, last_of, next_in, next_under, prev_in}
use Rattle.plir_store.specs.Lists.{prev_under}
use Rattle.plir_store.specs.Table.{Table, version_at, is_live_at}
use Rattle.plir_core.specs.declared.ptr.Ptr.{Ptr}
use Rattle.plir_core.specs.declared.ptr.IRNode.{IRNode}
use Rattle.plir_core.specs.declared.ptr.IRNode.TheVariants.{Operation, Region, BasicBlock}
use Rattle.plir_store.specs.Members.{Has, head}
use Rattle.plir_core.specs.Nodes.{Nodes, ptr_at, op_node, region_node, block_node, is_node_live, node_children}
use Rattle.plir_core.specs.Nodes.{node_over, node_parent, node_first, node_last, node_next, node_prev}
use Rattle.plir_core.specs.Stored.{IsListing, IsStored}
use Rattle.plir_core.specs.ContextView.{ContextView, IsLive, children, parent_of, first_child, last_child, next_sibling}
use Rattle.plir_core.specs.ContextView.{prev_sibling}
use Rattle.plir_core.specs.WellFormed.{IsWellFormed}
use Rattle.plir_core.proofs.Facts.{child-live, child-parent, parent-live, live_at}
use Rattle.plir_core.specs.Unused.{child_at}
use Rattle.plir_core.proofs.ChildAt.{child_at-is}
use Rattle.plir_store.specs.MemberLaws.{map-Has, Has-at}

-- what is said of each answer that there may be
pub answered : {X : Type 0} (f : X → IRNode) (P : IRNode → Type 0) (r : Option X) (o : Option IRNode) → option_map f r
    ≡
    o → ((x : IRNode) → o ≡ Some x → P x) → IfSome r (λ x. P (f x))
answered f P None o e h = tt
answered f P (Some x) o e h = h (f x) (sym e)

-- the first of a list, and what follows or stands before a child in it, are in it
first_Has : (xs : List ℕ) (i : ℕ) → head xs ≡ Some i → Has xs i
first_Has [] i e = absurd (none-some i e)
first_Has (x ∷ xs) i e = inl (same_Some x i e)

last_Has : (a : Option ℕ) (xs : List ℕ) (i : ℕ) → last_from a xs ≡ Some i → (a ≡ Some i) ⊎ Has xs i
last_Has a [] i e = inl e
last_Has a (x ∷ xs) i e = elim (last_Has (Some x) xs i e) [
  | inl f ↦ inr (inl (same_Some x i f))
  | inr k ↦ inr (inr k)
]

tail_Has : (xs : List ℕ) (i : ℕ) → last_of xs ≡ Some i → Has xs i
tail_Has xs i e = elim (last_Has None xs i e) [ inl q ↦ absurd (none-some i q) | inr k ↦ k ]

next_Has : (xs : List ℕ) (c i : ℕ) → next_in xs c ≡ Some i → Has xs i
next_Has [] c i e = absurd (none-some i e)
next_Has (x ∷ xs) c i e = elim (eqb x c) as (λ b. cond b (head xs) (next_in xs c) ≡ Some i → Has (x ∷ xs) i) [
  | true ↦ λ q. inr (first_Has xs i q)
  | false ↦ λ q. inr (next_Has xs c i q)
] e

prev_Has : (a : Option ℕ) (xs : List ℕ) (c i : ℕ) → prev_in a xs c ≡ Some i → (a ≡ Some i) ⊎ Has xs i
prev_Has a [] c i e = absurd (none-some i e)
prev_Has a (x ∷ xs) c i e = elim (eqb x c) as (λ b. cond b a (prev_in (Some x) xs c) ≡ Some i → (a ≡ Some i) ⊎ Has
    (x ∷ xs) i) [
      | true ↦ λ q. inl q
      | false ↦ λ q. elim (prev_Has (Some x) xs c i q) [ inl k ↦ inr (inl (same_Some x i k)) | inr k ↦ inr (inr k) ]
    ] e

-- a child that is picked of a list is a child
picked : (f : ℕ → IRNode) (b : Bool) (xs : List ℕ) (o : Option ℕ) (x : IRNode) → ((i : ℕ) → o ≡ Some i → Has xs i) →
    cond b (option_map f o) None ≡ Some x → Has (cond b (map f xs) []) x
picked f true xs None x h e = absurd (none-some x e)
picked f true xs (Some i) x h e = subst (Has (map f xs)) (same_Some (f i) x e) (map-Has f xs i (h i refl))
picked f false xs o x h e = absurd (none-some x e)

-- One of the three kinds of lists: `pick` gives what stands beside a child in the list of a parent.
module _ {C P X Y : Type 0} (l : Lists) (t : Table C) (u : Table P) (w : IsListing l t u) (as_node : Ptr X → IRNode)
    (over : Ptr Y → IRNode) (pick : Option ℕ → Option ℕ) (none : pick None ≡ None)
    (in_list : (p i : ℕ) → pick (Some p) ≡ Some i → Has (children_at l p) i) where
  record IsBesideIn (parent : Option IRNode) (x : IRNode) : Type 0 where
    above : Ptr Y
    is : parent ≡ Some (over above)
    child : Has (cond (is_live_at u above.slot above.version)
        (map (λ i. as_node (ptr_at t i)) (children_at l above.slot)) []) x

  beside_under : (c : ℕ) (o : Option ℕ) (x : IRNode) → parent_at l c ≡ o → option_map
      (λ i. as_node (ptr_at t i)) (pick o) ≡ Some x → IsBesideIn (option_map (λ i. over (ptr_at u i)) o) x
  beside_under c None x e f = absurd (none-some x (ap (option_map (λ i. as_node (ptr_at t i))) (sym none) ∙ f))
  beside_under c (Some p) x e f =
      let live : is_live_at u p (version_at u p) ≡ true = live_at u p ((w.linked_live c p e).1) in
      record {
        above = ptr_at u p;
        is = refl;
        child = rw live (picked (λ i. as_node (ptr_at t i)) true (children_at l p) (pick (Some p)) x (in_list p) f);
      }

  beside_in : (b : Bool) (c : ℕ) (x : IRNode) → cond b (option_map (λ i. as_node (ptr_at t i)) (pick (parent_at l c)))
      None ≡ Some x → IsBesideIn (cond b (option_map (λ i. over (ptr_at u i)) (parent_at l c)) None) x
  beside_in true c x e = beside_under c (parent_at l c) x refl e
  beside_in false c x e = absurd (none-some x e)

module _ {O B : Type 0} (s : Nodes O B) where
  -- what is picked of the children of a node
  abbrev picked_under : (List ℕ → Option ℕ) → IRNode → Option IRNode
  picked_under pick (Operation p) = cond (is_node_live s (Operation p)) (option_map (region_node s)
      (pick (children_at s.regions_in_op p.slot))) None
  picked_under pick (Region p) = cond (is_node_live s (Region p)) (option_map (block_node s)
      (pick (children_at s.blocks_in_region p.slot))) None
  picked_under pick (BasicBlock p) = cond (is_node_live s (BasicBlock p)) (option_map (op_node s)
      (pick (children_at s.ops_in_block p.slot))) None

  pick-Has : (pick : List ℕ → Option ℕ) → ((xs : List ℕ) (i : ℕ) → pick xs ≡ Some i → Has xs i) → (a x : IRNode) →
      picked_under pick a ≡ Some x → Has (node_children s a) x
  pick-Has pick h (Operation p) x e = picked (region_node s) (is_node_live s (Operation p))
      (children_at s.regions_in_op p.slot) (pick (children_at s.regions_in_op p.slot)) x
      (h (children_at s.regions_in_op p.slot)) e
  pick-Has pick h (Region p) x e = picked (block_node s) (is_node_live s (Region p))
      (children_at s.blocks_in_region p.slot) (pick (children_at s.blocks_in_region p.slot)) x
      (h (children_at s.blocks_in_region p.slot)) e
  pick-Has pick h (BasicBlock p) x e = picked (op_node s) (is_node_live s (BasicBlock p))
      (children_at s.ops_in_block p.slot) (pick (children_at s.ops_in_block p.slot)) x
      (h (children_at s.ops_in_block p.slot)) e

  -- the first and the last child are children
  pub first-Has : (a x : IRNode) → node_first s a ≡ Some x → Has (node_children s a) x
  first-Has (Operation p) x e = pick-Has head first_Has (Operation p) x e
  first-Has (Region p) x e = pick-Has head first_Has (Region p) x e
  first-Has (BasicBlock p) x e = pick-Has head first_Has (BasicBlock p) x e

  pub last-Has : (a x : IRNode) → node_last s a ≡ Some x → Has (node_children s a) x
  last-Has (Operation p) x e = pick-Has last_of tail_Has (Operation p) x e
  last-Has (Region p) x e = pick-Has last_of tail_Has (Region p) x e
  last-Has (BasicBlock p) x e = pick-Has last_of tail_Has (BasicBlock p) x e

module _ {O B : Type 0} (s : Nodes O B) (w : IsStored s) where
  -- x stands in the same list as n
  pub record IsBeside (n x : IRNode) : Type 0 where
    pub above : IRNode
    pub parent : node_parent s n ≡ Some above
    pub child : Has (node_children s above) x

  pub next-beside : (n x : IRNode) → node_next s n ≡ Some x → IsBeside n x
  next-beside (Operation p) x e = let r = beside_in s.ops_in_block s.ops s.blocks w.ops_listed Operation BasicBlock
      (next_under s.ops_in_block p.slot) refl (λ q i. next_Has (children_at s.ops_in_block q) p.slot i)
      (is_node_live s (Operation p)) p.slot x e in record {
        above = BasicBlock r.above;
        parent = r.is;
        child = r.child;
      }
  next-beside (Region p) x e = let r = beside_in s.regions_in_op s.regions s.ops w.regions_listed Region Operation
      (next_under s.regions_in_op p.slot) refl (λ q i. next_Has (children_at s.regions_in_op q) p.slot i)
      (is_node_live s (Region p)) p.slot x e in record { above = Operation r.above; parent = r.is; child = r.child }
  next-beside (BasicBlock p) x e = let r = beside_in s.blocks_in_region s.blocks s.regions w.blocks_listed BasicBlock
      Region (next_under s.blocks_in_region p.slot) refl (λ q i. next_Has (children_at s.blocks_in_region q) p.slot i)
      (is_node_live s (BasicBlock p)) p.slot x e in record { above = Region r.above; parent = r.is; child = r.child }

  before_Has : (l : Lists) (c q i : ℕ) → prev_under l c (Some q) ≡ Some i → Has (children_at l q) i
  before_Has l c q i e = elim (prev_Has None (children_at l q) c i e) [ inl f ↦ absurd (none-some i f) | inr k ↦ k ]

  pub prev-beside : (n x : IRNode) → node_prev s n ≡ Some x → IsBeside n x
  prev-beside (Operation p) x e = let r = beside_in s.ops_in_block s.ops s.blocks w.ops_listed Operation BasicBlock
      (prev_under s.ops_in_block p.slot) refl (before_Has s.ops_in_block p.slot) (is_node_live s (Operation p)) p.slot
      x
      e in record { above = BasicBlock r.above; parent = r.is; child = r.child }
  prev-beside (Region p) x e = let r = beside_in s.regions_in_op s.regions s.ops w.regions_listed Region Operation
      (prev_under s.regions_in_op p.slot) refl (before_Has s.regions_in_op p.slot) (is_node_live s (Region p)) p.slot x
      e in record { above = Operation r.above; parent = r.is; child = r.child }
  prev-beside (BasicBlock p) x e = let r = beside_in s.blocks_in_region s.blocks s.regions w.blocks_listed BasicBlock
      Region (prev_under s.blocks_in_region p.slot) refl (before_Has s.blocks_in_region p.slot)
      (is_node_live s (BasicBlock p)) p.slot x e in record { above = Region r.above; parent = r.is; child = r.child }

  -- what stands in the same list has the same parent
  beside-shares : (n x : IRNode) → IsBeside n x → node_parent s x ≡ node_parent s n
  beside-shares n x b = child-parent s w b.above x b.child ∙ sym b.parent

  pub next-shares : (n x : IRNode) → node_next s n ≡ Some x → node_parent s x ≡ node_parent s n
  next-shares n x e = beside-shares n x (next-beside n x e)

  pub prev-shares : (n x : IRNode) → node_prev s n ≡ Some x → node_parent s x ≡ node_parent s n
  prev-shares n x e = beside-shares n x (prev-beside n x e)

  -- what a link answers is live
  pub first-live : (a x : IRNode) → node_first s a ≡ Some x → is_node_live s x ≡ true
  first-live a x e = child-live s w a x (first-Has s a x e)

  pub last-live : (a x : IRNode) → node_last s a ≡ Some x → is_node_live s x ≡ true
  last-live a x e = child-live s w a x (last-Has s a x e)

  pub next-live : (n x : IRNode) → node_next s n ≡ Some x → is_node_live s x ≡ true
  next-live n x e = let b = next-beside n x e in child-live s w b.above x b.child

  pub prev-live : (n x : IRNode) → node_prev s n ≡ Some x → is_node_live s x ≡ true
  prev-live n x e = let b = prev-beside n x e in child-live s w b.above x b.child

  -- the first and the last child stand in the node
  pub first-here : (a x : IRNode) → node_first s a ≡ Some x → node_parent s x ≡ Some a
  first-here a x e = child-parent s w a x (first-Has s a x e)

  pub last-here : (a x : IRNode) → node_last s a ≡ Some x → node_parent s x ≡ Some a
  last-here a x e = child-parent s w a x (last-Has s a x e)

  pub over-live : (n x : IRNode) → node_parent s n ≡ Some x → is_node_live s x ≡ true
  over-live n x e = parent-live s w x n e

-- What the links of a context answer, where t is its value and s is made of the fields.
module _ {K A T X : Type 0} {own : A → List ℕ} {s t : ContextView K A T} (view : s ≡ t) (w : IsWellFormed own s)
    (f : X → IRNode) (r : Option X) where
  told : (P : ContextView K A T → IRNode → Type 0) → ((x : IRNode) → option_map f r ≡ Some x → P s x) → IfSome r
      (λ x. P t (f x))
  told P h = subst (λ z. IfSome r (λ x. P z (f x))) view (answered f (P s) r (option_map f r) refl h)

  pub over_told : (n : IRNode) → option_map f r ≡ parent_of s n → IfSome r (λ x. IsLive t (f x))
  over_told n e = told IsLive (λ x q. over-live s.nodes w.stored n x (sym e ∙ q))

  -- of a node of the same kind
  pub next_told : (p : X) → option_map f r ≡ next_sibling s (f p) → IfSome r (λ x. IsLive t (f x))
  next_told p e = told IsLive (λ x q. next-live s.nodes w.stored (f p) x (sym e ∙ q))

  pub prev_told : (p : X) → option_map f r ≡ prev_sibling s (f p) → IfSome r (λ x. IsLive t (f x))
  prev_told p e = told IsLive (λ x q. prev-live s.nodes w.stored (f p) x (sym e ∙ q))

  pub next_shares : (p : X) → option_map f r ≡ next_sibling s (f p) → IfSome r
      (λ x. parent_of t (f x) ≡ parent_of t (f p))
  next_shares p e = told (λ z x. parent_of z x ≡ parent_of z (f p))
      (λ x q. next-shares s.nodes w.stored (f p) x (sym e ∙ q))

  pub prev_shares : (p : X) → option_map f r ≡ prev_sibling s (f p) → IfSome r
      (λ x. parent_of t (f x) ≡ parent_of t (f p))
  prev_shares p e = told (λ z x. parent_of z x ≡ parent_of z (f p))
      (λ x q. prev-shares s.nodes w.stored (f p) x (sym e ∙ q))

  -- of a child
  pub first_stands : (n : IRNode) → option_map f r ≡ first_child s n → IfSome r (λ x. parent_of t (f x) ≡ Some n)
  first_stands n e = told (λ z x. parent_of z x ≡ Some n) (λ x q. first-here s.nodes w.stored n x (sym e ∙ q))

  pub last_stands : (n : IRNode) → option_map f r ≡ last_child s n → IfSome r (λ x. parent_of t (f x) ≡ Some n)
  last_stands n e = told (λ z x. parent_of z x ≡ Some n) (λ x q. last-here s.nodes w.stored n x (sym e ∙ q))

-- what has a parent is live
has_parent : (b : Bool) (o : Option IRNode) (n : IRNode) → cond b o None ≡ Some n → b ≡ true
has_parent true o n e = refl
has_parent false o n e = absurd (none-some n e)

pub stands_live : {K A T X : Type 0} (t : ContextView K A T) (f : X → IRNode) (n : IRNode) (r : Option X) → IfSome r
    (λ x. parent_of t (f x) ≡ Some n) → IfSome r (λ x. IsLive t (f x))
stands_live t f n None h = tt
stands_live t f n (Some x) h = has_parent (is_node_live t.nodes (f x)) (node_over t.nodes (f x)) n h

-- the child at a place is live, and the word of the place is that child
pub place_told : {K A T : Type 0} (own : A → List ℕ) (s t : ContextView K A T) → s ≡ t → IsWellFormed own s →
    (n x : IRNode) (i : ℕ) → slice_get (children s n) i ≡ Some x → IsLive t x × (x ≡ child_at t n i)
place_told own s t view w n x i e = subst (λ z. IsLive z x × (x ≡ child_at z n i)) view
    (child-live s.nodes w.stored n x (Has-at (children s n) i x e), sym (child_at-is s n x i e))
