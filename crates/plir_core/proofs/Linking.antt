-- Links by the children of nodes.
use Rattle.std.proofs.Common.{◌≡◌, ℕ, ◌<◌, Bool, true, false, cond, List, [], ◌∷◌, ◌++◌, map, length, Option, Some}
use Rattle.std.proofs.Common.{None, inl, inr, refl, sym, ◌∙◌, ap, subst, set, eq-eqb, arith}
use Rattle.std.specs.Prelude.{option_map}
use Rattle.std.proofs.lemmas.Bool.{cases_eq, ne_eqb}
use Rattle.std.proofs.lemmas.List.{get_or-set_same, get_or-set_other, map-append}
use Rattle.plir_store.specs.Lists.{Lists, children_at, parent_at, put_in, put_in_after, with_first, with_last}
use Rattle.plir_store.specs.Lists.{with_before, with_after, with_before_under, with_after_under, without_child}
use Rattle.plir_store.specs.Table.{Table, is_live_at}
use Rattle.plir_core.specs.declared.ptr.Ptr.{Ptr}
use Rattle.plir_core.specs.declared.ptr.Operation.{Operation as OperationKind}
use Rattle.plir_core.specs.declared.ptr.Region.{Region as RegionKind}
use Rattle.plir_core.specs.declared.ptr.BasicBlock.{BasicBlock as BlockKind}
use Rattle.plir_core.specs.declared.ptr.IRNode.{IRNode}
use Rattle.plir_core.specs.declared.ptr.IRNode.TheVariants.{Operation, Region, BasicBlock}
use Rattle.plir_store.specs.Members.{Has, Distinct}
use Rattle.plir_core.specs.Nodes.{Nodes, ptr_at, is_node_live, node_children, op_node, block_node, region_node}
use Rattle.plir_core.specs.Stored.{IsListing, IsStored}
use Rattle.plir_core.specs.Placed.{IsPlaced, IsUnlinked}
use Rattle.plir_core.specs.declared.arena.moving.Point.{Point}
use Rattle.plir_core.specs.declared.arena.moving.Point.TheVariants.{AtFront, AtBack, Before, After}
use Rattle.plir_core.specs.Points.{CanBePut, IsPutAt, with_op_put, with_block_put}
use Rattle.plir_core.proofs.Facts.{live_parts, ptr_is, child-parent, parent-live, slot_of}
use Rattle.plir_core.proofs.Freed.{bool_cases, children_taken, ptr_one, wrong_child}
use Rattle.plir_core.proofs.Listing.{within_content}
use Rattle.plir_core.proofs.Removal.{among, children_at-without_other}
use Rattle.plir_core.proofs.Removal.{parent_at-without_here, parent_at-without_other}
use Rattle.plir_store.specs.MemberLaws.{Has-mid}

-- f gives each number an image of its own
module _ {A : Type 0} (f : ℕ → A) (one : (i j : ℕ) → f i ≡ f j → i ≡ j) (c m : ℕ) where
  -- the images of a list with c before m, and after m
  pub map-put_in : (ks : List ℕ) (xs ys : List A) → Distinct ks → map f ks ≡ xs ++ f m ∷ ys → map f (put_in c m ks) ≡ xs
      ++ f c ∷ f m ∷ ys
  map-put_in [] [] ys a e = cc
  map-put_in [] (x ∷ xs) ys a e = cc
  map-put_in (k ∷ ks) [] ys a e =
      let h : f k ≡ f m = cc in
      rw (eq-eqb k m (one k m h)) (ap (λ z. f c ∷ z) e)
  map-put_in (k ∷ ks) (x ∷ xs) ys a e =
      let h : f k ≡ x = cc in
      let t : map f ks ≡ xs ++ f m ∷ ys = cc in
      elim (cases_eq k m) [
        | inl q ↦ absurd (a.0 (subst (λ z. Has ks z) (sym q) (among f one m ks xs ys t)))
        | inr n ↦ rw (ne_eqb k m n, h, map-put_in ks xs ys a.1 t) refl
      ]

  pub map-put_in_after : (ks : List ℕ) (xs ys : List A) → Distinct ks → map f ks ≡ xs ++ f m ∷ ys → map f
      (put_in_after c m ks) ≡ xs ++ f m ∷ f c ∷ ys
  map-put_in_after [] [] ys a e = cc
  map-put_in_after [] (x ∷ xs) ys a e = cc
  map-put_in_after (k ∷ ks) [] ys a e =
      let h : f k ≡ f m = cc in
      let t : map f ks ≡ ys = cc in
      rw (eq-eqb k m (one k m h), h, t) refl
  map-put_in_after (k ∷ ks) (x ∷ xs) ys a e =
      let h : f k ≡ x = cc in
      let t : map f ks ≡ xs ++ f m ∷ ys = cc in
      elim (cases_eq k m) [
        | inl q ↦ absurd (a.0 (subst (λ z. Has ks z) (sym q) (among f one m ks xs ys t)))
        | inr n ↦ rw (ne_eqb k m n, h, map-put_in_after ks xs ys a.1 t) refl
      ]

-- From l to l' the child c has come under p, whose children are now ks.
pub record IsPut (l l' : Lists) (c p : ℕ) (ks : List ℕ) : Type 0 where
  pub here : parent_at l' c ≡ Some p
  pub other : (x : ℕ) → (x ≡ c → ⊥) → parent_at l' x ≡ parent_at l x
  pub children_here : children_at l' p ≡ ks
  pub children_other : (q : ℕ) → (q ≡ p → ⊥) → children_at l' q ≡ children_at l q

IsPut-under : (l : Lists) (c p : ℕ) (ks : List ℕ) → c < length l.parents → p < length l.children → IsPut l
    (record { children = set l.children p ks; parents = set l.parents c (Some p) }) c p ks
IsPut-under l c p ks h k = record {
  here = get_or-set_same l.parents c (Some p) None h;
  other = λ x n. get_or-set_other l.parents c x (Some p) None n;
  children_here = get_or-set_same l.children p ks [] k;
  children_other = λ q n. get_or-set_other l.children p q ks [] n;
}

pub IsPut-first : (l : Lists) (c p : ℕ) → c < length l.parents → p < length l.children → IsPut l (with_first l p c) c p
    (c ∷ children_at l p)
IsPut-first l c p h k = IsPut-under l c p (c ∷ children_at l p) h k

pub IsPut-last : (l : Lists) (c p : ℕ) → c < length l.parents → p < length l.children → IsPut l (with_last l p c) c p
    (children_at l p ++ c ∷ [])
IsPut-last l c p h k = IsPut-under l c p (children_at l p ++ c ∷ []) h k

pub IsPut-before : (l : Lists) (c m p : ℕ) → parent_at l m ≡ Some p → c < length l.parents → p < length l.children →
    IsPut l (with_before l c m) c p (put_in c m (children_at l p))
IsPut-before l c m p e h k = subst (λ o. IsPut l (with_before_under l c m o) c p (put_in c m (children_at l p))) (sym e)
    (IsPut-under l c p (put_in c m (children_at l p)) h k)

pub IsPut-after : (l : Lists) (c m p : ℕ) → parent_at l m ≡ Some p → c < length l.parents → p < length l.children →
    IsPut l (with_after l c m) c p (put_in_after c m (children_at l p))
IsPut-after l c m p e h k = subst (λ o. IsPut l (with_after_under l c m o) c p (put_in_after c m (children_at l p)))
    (sym e) (IsPut-under l c p (put_in_after c m (children_at l p)) h k)

-- One of the kinds of lists: `child` and `over` make nodes of the pointers.
module _ {C P X Y : Type 0} (l l' : Lists) (t : Table C) (u : Table P) (w : IsListing l t u) (as_node : Ptr X → IRNode)
    (over : Ptr Y → IRNode) where
  abbrev child : ℕ → IRNode
  child i = as_node (ptr_at t i)

  abbrev children_word : Lists → Ptr Y → List IRNode
  children_word z p = cond (is_live_at u p.slot p.version) (map child (children_at z p.slot)) []

  abbrev parent_word : Lists → Ptr X → Option IRNode
  parent_word z q = cond (is_live_at t q.slot q.version) (option_map (λ i. over (ptr_at u i)) (parent_at z q.slot)) None

  parent_kept : (c q : Ptr X) → is_live_at t c.slot c.version ≡ true → ((x : ℕ) → (x ≡ c.slot → ⊥) → parent_at l' x ≡
      parent_at l x) → (q ≡ c → ⊥) → parent_word l' q ≡ parent_word l q
  parent_kept c q live other ne = elim (is_live_at t q.slot q.version) as (λ b. is_live_at t q.slot q.version ≡ b → cond
      b (option_map (λ i. over (ptr_at u i)) (parent_at l' q.slot)) None ≡ cond b
      (option_map (λ i. over (ptr_at u i)) (parent_at l q.slot)) None) [
        | true ↦ λ e. ap (option_map (λ i. over (ptr_at u i))) (other q.slot (λ f. ne (ptr_one t c q live e f)))
        | false ↦ λ e. refl
      ] refl

  module _ (c : Ptr X) (p : Ptr Y) (ks : List ℕ) (live : is_live_at t c.slot c.version ≡ true)
      (live_over : is_live_at u p.slot p.version ≡ true) (put : IsPut l l' c.slot p.slot ks) where
    parent_put : parent_word l' c ≡ Some (over p)
    parent_put = rw (live, put.here) (ap (λ z. Some (over z)) (ptr_is u p live_over))

    children_put : children_word l' p ≡ map child ks
    children_put = rw (live_over, put.children_here) refl

    children_kept : (q : Ptr Y) → (q ≡ p → ⊥) → children_word l' q ≡ children_word l q
    children_kept q ne = elim (is_live_at u q.slot q.version) as (λ b. is_live_at u q.slot q.version ≡ b → cond b
        (map child (children_at l' q.slot)) [] ≡ cond b (map child (children_at l q.slot)) []) [
          | true ↦ λ e. ap (map child) (put.children_other q.slot (λ f. ne (ptr_one u p q live_over e f)))
          | false ↦ λ e. refl
        ] refl

-- the children by their nodes, now that c is among them
module _ {C P X Y : Type 0} (l : Lists) (t : Table C) (u : Table P) (w : IsListing l t u) (as_node : Ptr X → IRNode)
    (c : Ptr X) (live : is_live_at t c.slot c.version ≡ true) (p : Ptr Y) (live_over : is_live_at u p.slot p.version ≡
    true) where
  abbrev child_at_slot : ℕ → IRNode
  child_at_slot i = as_node (ptr_at t i)

  abbrev children_now : List IRNode
  children_now = cond (is_live_at u p.slot p.version) (map child_at_slot (children_at l p.slot)) []

  children_first : map child_at_slot (c.slot ∷ children_at l p.slot) ≡ as_node c ∷ children_now
  children_first = rw live_over (ap (λ z. as_node z ∷ map child_at_slot (children_at l p.slot)) (ptr_is t c live))

  children_last : map child_at_slot (children_at l p.slot ++ c.slot ∷ []) ≡ children_now ++ as_node c ∷ []
  children_last = rw live_over (map-append child_at_slot (children_at l p.slot) (c.slot ∷ []) ∙ ap
      (λ z. map child_at_slot (children_at l p.slot) ++ as_node z ∷ []) (ptr_is t c live))

  -- beside the mark m, which stands between xs and ys
  module _ (one : (i j : ℕ) → as_node (ptr_at t i) ≡ as_node (ptr_at t j) → i ≡ j) (m : Ptr X)
      (live_mark : is_live_at t m.slot m.version ≡ true) (xs ys : List IRNode) (e : children_now ≡ xs ++ as_node m ∷ ys)
    where
      at_mark : map child_at_slot (children_at l p.slot) ≡ xs ++ child_at_slot m.slot ∷ ys
      at_mark = (rw live_over at e) ∙ ap (λ z. xs ++ as_node z ∷ ys) (sym (ptr_is t m live_mark))

      -- the slot above the mark
      over_mark : parent_at l m.slot ≡ Some p.slot
      over_mark = w.agreed.owned p.slot m.slot (among child_at_slot one m.slot (children_at l p.slot) xs ys at_mark)

      children_before : map child_at_slot (put_in c.slot m.slot (children_at l p.slot)) ≡ xs ++ as_node c ∷ as_node m ∷
          ys
      children_before =
          map-put_in child_at_slot one c.slot m.slot (children_at l p.slot) xs ys (w.agreed.apart p.slot) at_mark
          ∙ ap (λ z. xs ++ as_node z ∷ child_at_slot m.slot ∷ ys) (ptr_is t c live)
          ∙ ap (λ z. xs ++ as_node c ∷ as_node z ∷ ys) (ptr_is t m live_mark)

      children_after : map child_at_slot (put_in_after c.slot m.slot (children_at l p.slot)) ≡ xs ++ as_node m ∷ as_node
          c
          ∷ ys
      children_after =
          map-put_in_after child_at_slot one c.slot m.slot (children_at l p.slot) xs ys (w.agreed.apart p.slot) at_mark
          ∙ ap (λ z. xs ++ child_at_slot m.slot ∷ as_node z ∷ ys) (ptr_is t c live)
          ∙ ap (λ z. xs ++ as_node z ∷ as_node c ∷ ys) (ptr_is t m live_mark)

-- c is taken out of its list
module _ {C P X Y : Type 0} (l : Lists) (t : Table C) (u : Table P) (w : IsListing l t u) (as_node : Ptr X → IRNode)
    (over : Ptr Y → IRNode) (c : Ptr X) (live : is_live_at t c.slot c.version ≡ true) where
  abbrev child_of : ℕ → IRNode
  child_of i = as_node (ptr_at t i)

  children_left : (q : Ptr Y) → (cond (is_live_at t c.slot c.version) (option_map (λ i. over (ptr_at u i))
      (parent_at l c.slot)) None ≡ Some (over q) → ⊥) → cond (is_live_at u q.slot q.version)
      (map child_of (children_at (without_child l c.slot) q.slot)) [] ≡ cond (is_live_at u q.slot q.version)
      (map child_of (children_at l q.slot)) []
  children_left q away = elim (bool_cases (is_live_at u q.slot q.version)) [
    | inl f ↦ ap (λ ks. cond (is_live_at u q.slot q.version) (map child_of ks) [])
        (children_at-without_other l w.agreed c.slot q.slot (λ e. away (rw (live, e)
        (ap (λ z. Some (over z)) (ptr_is u q f)))))
    | inr f ↦ rw f refl
  ]

module _ {O B : Type 0} (s : Nodes O B) (w : IsStored s) where
  op_within : (o : Ptr OperationKind) → is_node_live s (Operation o) ≡ true → o.slot < length s.ops_in_block.parents
  op_within o live = let h = within_content s.ops o.slot ((live_parts s.ops o.slot o.version live).0) in omega
      (arith, w.ops_listed.child_places)

  block_over : (b : Ptr BlockKind) → is_node_live s (BasicBlock b) ≡ true → b.slot < length s.ops_in_block.children
  block_over b live = let h = within_content s.blocks b.slot ((live_parts s.blocks b.slot b.version live).0) in omega
      (arith, w.ops_listed.parent_places)

  block_within : (b : Ptr BlockKind) → is_node_live s (BasicBlock b) ≡ true → b.slot < length s.blocks_in_region.parents
  block_within b live = let h = within_content s.blocks b.slot ((live_parts s.blocks b.slot b.version live).0) in omega
      (arith, w.blocks_listed.child_places)

  region_over : (r : Ptr RegionKind) → is_node_live s (Region r) ≡ true → r.slot < length s.blocks_in_region.children
  region_over r live = let h = within_content s.regions r.slot ((live_parts s.regions r.slot r.version live).0) in omega
      (arith, w.blocks_listed.parent_places)

  -- an operation is put into a block, and a block into a region
  op_put : (l : Lists) (o : Ptr OperationKind) (b : Ptr BlockKind) (ks : List ℕ) → is_node_live s (Operation o) ≡ true →
      is_node_live s (BasicBlock b) ≡ true → IsPut s.ops_in_block l o.slot b.slot ks → IsPlaced s
      (record s { ops_in_block = l }) (Operation o) (BasicBlock b) (map (op_node s) ks)
  op_put l o b ks live_o live_b put = record {
    moved = record {
      ops = refl;
      regions = refl;
      blocks = refl;
      limit = refl;
      parents = elim [
        | Operation q ↦ λ ne. parent_kept s.ops_in_block l s.ops s.blocks w.ops_listed Operation BasicBlock o q live_o
            put.other (λ e. ne (ap Operation e))
        | Region q ↦ λ ne. refl
        | BasicBlock q ↦ λ ne. refl
      ];
    };
    parent = parent_put s.ops_in_block l s.ops s.blocks w.ops_listed Operation BasicBlock o b ks live_o live_b put;
    children_over = children_put s.ops_in_block l s.ops s.blocks w.ops_listed Operation BasicBlock o b ks live_o live_b
        put;
    children = elim [
      | Operation q ↦ λ ne. refl
      | Region q ↦ λ ne. refl
      | BasicBlock q ↦ λ ne. children_kept s.ops_in_block l s.ops s.blocks w.ops_listed Operation BasicBlock o b ks
          live_o live_b put q (λ e. ne (ap BasicBlock e))
    ];
  }

  block_put : (l : Lists) (b : Ptr BlockKind) (r : Ptr RegionKind) (ks : List ℕ) → is_node_live s (BasicBlock b) ≡ true
      → is_node_live s (Region r) ≡ true → IsPut s.blocks_in_region l b.slot r.slot ks → IsPlaced s
      (record s { blocks_in_region = l }) (BasicBlock b) (Region r) (map (block_node s) ks)
  block_put l b r ks live_b live_r put = record {
    moved = record {
      ops = refl;
      regions = refl;
      blocks = refl;
      limit = refl;
      parents = elim [
        | Operation q ↦ λ ne. refl
        | Region q ↦ λ ne. refl
        | BasicBlock q ↦ λ ne. parent_kept s.blocks_in_region l s.blocks s.regions w.blocks_listed BasicBlock Region b q
            live_b put.other (λ e. ne (ap BasicBlock e))
      ];
    };
    parent = parent_put s.blocks_in_region l s.blocks s.regions w.blocks_listed BasicBlock Region b r ks live_b live_r
        put;
    children_over = children_put s.blocks_in_region l s.blocks s.regions w.blocks_listed BasicBlock Region b r ks live_b
        live_r put;
    children = elim [
      | Operation q ↦ λ ne. refl
      | Region q ↦ λ ne. children_kept s.blocks_in_region l s.blocks s.regions w.blocks_listed BasicBlock Region b r ks
          live_b live_r put q (λ e. ne (ap Region e))
      | BasicBlock q ↦ λ ne. refl
    ];
  }

  op_taken : (o : Ptr OperationKind) → is_node_live s (Operation o) ≡ true → IsUnlinked s
      (record s { ops_in_block = without_child s.ops_in_block o.slot }) (Operation o)
  op_taken o live = record {
    moved = record {
      ops = refl;
      regions = refl;
      blocks = refl;
      limit = refl;
      parents = elim [
        | Operation q ↦ λ ne. parent_kept s.ops_in_block (without_child s.ops_in_block o.slot) s.ops s.blocks
            w.ops_listed Operation BasicBlock o q live (parent_at-without_other s.ops_in_block w.ops_listed.agreed
            o.slot) (λ e. ne (ap Operation e))
        | Region q ↦ λ ne. refl
        | BasicBlock q ↦ λ ne. refl
      ];
    };
    parent = rw (live, parent_at-without_here s.ops_in_block w.ops_listed.agreed o.slot) refl;
    children_over = elim [
      | Operation q ↦ λ xs ys e. absurd (wrong_child (is_node_live s (Operation q)) (region_node s)
          (children_at s.regions_in_op q.slot) (Operation o) (λ i f. cc) (subst (λ z. Has z (Operation o)) (sym e)
          (Has-mid xs ys (Operation o))))
      | Region q ↦ λ xs ys e. absurd (wrong_child (is_node_live s (Region q)) (block_node s)
          (children_at s.blocks_in_region q.slot) (Operation o) (λ i f. cc) (subst (λ z. Has z (Operation o)) (sym e)
          (Has-mid xs ys (Operation o))))
      | BasicBlock q ↦ λ xs ys e. children_taken s.ops_in_block s.ops s.blocks w.ops_listed o live Operation
          (λ i j f. ap slot_of f) (is_node_live s (BasicBlock q)) q.slot xs ys e
    ];
    children = elim [
      | Operation q ↦ λ ne. refl
      | Region q ↦ λ ne. refl
      | BasicBlock q ↦ λ ne. children_left s.ops_in_block s.ops s.blocks w.ops_listed Operation BasicBlock o live q
          ne
    ];
  }

  block_taken : (b : Ptr BlockKind) → is_node_live s (BasicBlock b) ≡ true → IsUnlinked s
      (record s { blocks_in_region = without_child s.blocks_in_region b.slot }) (BasicBlock b)
  block_taken b live = record {
    moved = record {
      ops = refl;
      regions = refl;
      blocks = refl;
      limit = refl;
      parents = elim [
        | Operation q ↦ λ ne. refl
        | Region q ↦ λ ne. refl
        | BasicBlock q ↦ λ ne. parent_kept s.blocks_in_region (without_child s.blocks_in_region b.slot) s.blocks
            s.regions w.blocks_listed BasicBlock Region b q live (parent_at-without_other s.blocks_in_region
            w.blocks_listed.agreed b.slot) (λ e. ne (ap BasicBlock e))
      ];
    };
    parent = rw (live, parent_at-without_here s.blocks_in_region w.blocks_listed.agreed b.slot) refl;
    children_over = elim [
      | Operation q ↦ λ xs ys e. absurd (wrong_child (is_node_live s (Operation q)) (region_node s)
          (children_at s.regions_in_op q.slot) (BasicBlock b) (λ i f. cc) (subst (λ z. Has z (BasicBlock b)) (sym e)
          (Has-mid xs ys (BasicBlock b))))
      | Region q ↦ λ xs ys e. children_taken s.blocks_in_region s.blocks s.regions w.blocks_listed b live BasicBlock
          (λ i j f. ap slot_of f) (is_node_live s (Region q)) q.slot xs ys e
      | BasicBlock q ↦ λ xs ys e. absurd (wrong_child (is_node_live s (BasicBlock q)) (op_node s)
          (children_at s.ops_in_block q.slot) (BasicBlock b) (λ i f. cc) (subst (λ z. Has z (BasicBlock b)) (sym e)
          (Has-mid xs ys (BasicBlock b))))
    ];
    children = elim [
      | Operation q ↦ λ ne. refl
      | Region q ↦ λ ne. children_left s.blocks_in_region s.blocks s.regions w.blocks_listed BasicBlock Region b
          live q ne
      | BasicBlock q ↦ λ ne. refl
    ];
  }

-- The changes as the functions have them: s is made of the fields, t is the value, and n what the nodes are afterwards.
module _ {O B : Type 0} (s t : Nodes O B) (view : s ≡ t) (w : IsStored s) where
  live_here : (m : IRNode) → is_node_live t m ≡ true → is_node_live s m ≡ true
  live_here m e = subst (λ z. is_node_live z m ≡ true) (sym view) e

  seen : (n n' : Nodes O B) (m over : IRNode) (ks ks' : List IRNode) → n ≡ n' → ks ≡ ks' → IsPlaced s n' m over ks →
      IsPlaced t n m over ks'
  seen n n' m over ks ks' e f x = subst (λ z. IsPlaced z n m over ks') view (subst (λ z. IsPlaced s z m over ks')
      (sym e) (subst (IsPlaced s n' m over) f x))

  -- at the start and at the end
  op_first : (n : Nodes O B) (o : Ptr OperationKind) (b : Ptr BlockKind) → is_node_live t (Operation o) ≡ true →
      is_node_live t (BasicBlock b) ≡ true → n ≡ record s { ops_in_block = with_first s.ops_in_block b.slot o.slot } →
      IsPlaced t n (Operation o) (BasicBlock b) (Operation o ∷ node_children t (BasicBlock b))
  op_first n o b live_o live_b e =
      let lo = live_here (Operation o) live_o in
      let lb = live_here (BasicBlock b) live_b in
      seen n _ (Operation o) (BasicBlock b) _ _ e (children_first s.ops_in_block s.ops s.blocks w.ops_listed Operation o
      lo b lb ∙ ap (λ z. Operation o ∷ node_children z (BasicBlock b)) view)
      (op_put s w (with_first s.ops_in_block b.slot o.slot) o b (o.slot ∷ children_at s.ops_in_block b.slot) lo lb
      (IsPut-first s.ops_in_block o.slot b.slot (op_within s w o lo) (block_over s w b lb)))

  op_last : (n : Nodes O B) (o : Ptr OperationKind) (b : Ptr BlockKind) → is_node_live t (Operation o) ≡ true →
      is_node_live t (BasicBlock b) ≡ true → n ≡ record s { ops_in_block = with_last s.ops_in_block b.slot o.slot } →
      IsPlaced t n (Operation o) (BasicBlock b) (node_children t (BasicBlock b) ++ Operation o ∷ [])
  op_last n o b live_o live_b e =
      let lo = live_here (Operation o) live_o in
      let lb = live_here (BasicBlock b) live_b in
      seen n _ (Operation o) (BasicBlock b) _ _ e (children_last s.ops_in_block s.ops s.blocks w.ops_listed Operation o
      lo b lb ∙ ap (λ z. node_children z (BasicBlock b) ++ Operation o ∷ []) view)
      (op_put s w (with_last s.ops_in_block b.slot o.slot) o b (children_at s.ops_in_block b.slot ++ o.slot ∷ []) lo lb
      (IsPut-last s.ops_in_block o.slot b.slot (op_within s w o lo) (block_over s w b lb)))

  block_first : (n : Nodes O B) (b : Ptr BlockKind) (r : Ptr RegionKind) → is_node_live t (BasicBlock b) ≡ true →
      is_node_live t (Region r) ≡ true → n ≡ record s { blocks_in_region = with_first s.blocks_in_region r.slot b.slot }
      → IsPlaced t n (BasicBlock b) (Region r) (BasicBlock b ∷ node_children t (Region r))
  block_first n b r live_b live_r e =
      let lb = live_here (BasicBlock b) live_b in
      let lr = live_here (Region r) live_r in
      seen n _ (BasicBlock b) (Region r) _ _ e (children_first s.blocks_in_region s.blocks s.regions w.blocks_listed
      BasicBlock b lb r lr ∙ ap (λ z. BasicBlock b ∷ node_children z (Region r)) view)
      (block_put s w (with_first s.blocks_in_region r.slot b.slot) b r (b.slot ∷ children_at s.blocks_in_region r.slot)
      lb lr (IsPut-first s.blocks_in_region b.slot r.slot (block_within s w b lb) (region_over s w r lr)))

  block_last : (n : Nodes O B) (b : Ptr BlockKind) (r : Ptr RegionKind) → is_node_live t (BasicBlock b) ≡ true →
      is_node_live t (Region r) ≡ true → n ≡ record s { blocks_in_region = with_last s.blocks_in_region r.slot b.slot }
      → IsPlaced t n (BasicBlock b) (Region r) (node_children t (Region r) ++ BasicBlock b ∷ [])
  block_last n b r live_b live_r e =
      let lb = live_here (BasicBlock b) live_b in
      let lr = live_here (Region r) live_r in
      seen n _ (BasicBlock b) (Region r) _ _ e (children_last s.blocks_in_region s.blocks s.regions w.blocks_listed
      BasicBlock b lb r lr ∙ ap (λ z. node_children z (Region r) ++ BasicBlock b ∷ []) view)
      (block_put s w (with_last s.blocks_in_region r.slot b.slot) b r (children_at s.blocks_in_region r.slot ++ b.slot ∷
      []) lb lr (IsPut-last s.blocks_in_region b.slot r.slot (block_within s w b lb) (region_over s w r lr)))

  -- whose child an operation and a block can be
  over_op : (a : IRNode) (xs ys : List IRNode) (m : Ptr OperationKind) → node_children s a ≡ xs ++ Operation m ∷ ys →
      (b : Ptr BlockKind) × ((a ≡ BasicBlock b) × (is_node_live s (BasicBlock b) ≡ true))
  over_op (Operation q) xs ys m e = absurd (wrong_child (is_node_live s (Operation q)) (region_node s)
      (children_at s.regions_in_op q.slot) (Operation m) (λ i f. cc) (subst (λ z. Has z (Operation m)) (sym e)
      (Has-mid xs ys (Operation m))))
  over_op (Region q) xs ys m e = absurd (wrong_child (is_node_live s (Region q)) (block_node s)
      (children_at s.blocks_in_region q.slot) (Operation m) (λ i f. cc) (subst (λ z. Has z (Operation m)) (sym e)
      (Has-mid xs ys (Operation m))))
  over_op (BasicBlock q) xs ys m e = (
    q,
    (
      refl,
      parent-live s w (BasicBlock q) (Operation m)
          (child-parent s w (BasicBlock q) (Operation m) (subst (λ z. Has z (Operation m)) (sym e)
          (Has-mid xs ys (Operation m)))),
    ),
  )

  over_block : (a : IRNode) (xs ys : List IRNode) (m : Ptr BlockKind) → node_children s a ≡ xs ++ BasicBlock m ∷ ys →
      (r : Ptr RegionKind) × ((a ≡ Region r) × (is_node_live s (Region r) ≡ true))
  over_block (Operation q) xs ys m e = absurd (wrong_child (is_node_live s (Operation q)) (region_node s)
      (children_at s.regions_in_op q.slot) (BasicBlock m) (λ i f. cc) (subst (λ z. Has z (BasicBlock m)) (sym e)
      (Has-mid xs ys (BasicBlock m))))
  over_block (Region q) xs ys m e = (
    q,
    (
      refl,
      parent-live s w (Region q) (BasicBlock m)
          (child-parent s w (Region q) (BasicBlock m) (subst (λ z. Has z (BasicBlock m)) (sym e)
          (Has-mid xs ys (BasicBlock m)))),
    ),
  )
  over_block (BasicBlock q) xs ys m e = absurd (wrong_child (is_node_live s (BasicBlock q)) (op_node s)
      (children_at s.ops_in_block q.slot) (BasicBlock m) (λ i f. cc) (subst (λ z. Has z (BasicBlock m)) (sym e)
      (Has-mid xs ys (BasicBlock m))))

  -- beside a mark m
  op_before : (n : Nodes O B) (o m : Ptr OperationKind) → is_node_live t (Operation o) ≡ true → is_node_live t
      (Operation m) ≡ true → n ≡ record s { ops_in_block = with_before s.ops_in_block o.slot m.slot } → (a : IRNode)
      (xs ys : List IRNode) → node_children t a ≡ xs ++ Operation m ∷ ys → IsPlaced t n (Operation o) a
      (xs ++ Operation o ∷ Operation m ∷ ys)
  op_before n o m live_o live_m e a xs ys k =
      let lo = live_here (Operation o) live_o in
      let lm = live_here (Operation m) live_m in
      let v = over_op a xs ys m (ap (λ z. node_children z a) view ∙ k) in
      let h : node_children s (BasicBlock v.0) ≡ xs ++ Operation m ∷ ys = ap (node_children s) (sym v.1.0) ∙ ap
      (λ z. node_children z a) view ∙ k in
      subst (λ z. IsPlaced t n (Operation o) z (xs ++ Operation o ∷ Operation m ∷ ys)) (sym v.1.0)
      (seen n _ (Operation o) (BasicBlock v.0) _ _ e (children_before s.ops_in_block s.ops s.blocks w.ops_listed
      Operation o lo v.0 v.1.1 (λ i j f. ap slot_of f) m lm xs ys h)
      (op_put s w (with_before s.ops_in_block o.slot m.slot) o v.0 (put_in o.slot m.slot
      (children_at s.ops_in_block (v.0).slot)) lo v.1.1
      (IsPut-before s.ops_in_block o.slot m.slot (v.0).slot (over_mark s.ops_in_block s.ops s.blocks w.ops_listed
      Operation o lo v.0 v.1.1 (λ i j f. ap slot_of f) m lm xs ys h) (op_within s w o lo)
      (block_over s w v.0 v.1.1))))

  op_after : (n : Nodes O B) (o m : Ptr OperationKind) → is_node_live t (Operation o) ≡ true → is_node_live t
      (Operation m) ≡ true → n ≡ record s { ops_in_block = with_after s.ops_in_block o.slot m.slot } → (a : IRNode)
      (xs ys : List IRNode) → node_children t a ≡ xs ++ Operation m ∷ ys → IsPlaced t n (Operation o) a
      (xs ++ Operation m ∷ Operation o ∷ ys)
  op_after n o m live_o live_m e a xs ys k =
      let lo = live_here (Operation o) live_o in
      let lm = live_here (Operation m) live_m in
      let v = over_op a xs ys m (ap (λ z. node_children z a) view ∙ k) in
      let h : node_children s (BasicBlock v.0) ≡ xs ++ Operation m ∷ ys = ap (node_children s) (sym v.1.0) ∙ ap
      (λ z. node_children z a) view ∙ k in
      subst (λ z. IsPlaced t n (Operation o) z (xs ++ Operation m ∷ Operation o ∷ ys)) (sym v.1.0)
      (seen n _ (Operation o) (BasicBlock v.0) _ _ e (children_after s.ops_in_block s.ops s.blocks w.ops_listed
      Operation o lo v.0 v.1.1 (λ i j f. ap slot_of f) m lm xs ys h)
      (op_put s w (with_after s.ops_in_block o.slot m.slot) o v.0 (put_in_after o.slot m.slot
      (children_at s.ops_in_block (v.0).slot)) lo v.1.1
      (IsPut-after s.ops_in_block o.slot m.slot (v.0).slot (over_mark s.ops_in_block s.ops s.blocks w.ops_listed
      Operation o lo v.0 v.1.1 (λ i j f. ap slot_of f) m lm xs ys h) (op_within s w o lo)
      (block_over s w v.0 v.1.1))))

  block_before : (n : Nodes O B) (b m : Ptr BlockKind) → is_node_live t (BasicBlock b) ≡ true → is_node_live t
      (BasicBlock m) ≡ true → n ≡ record s { blocks_in_region = with_before s.blocks_in_region b.slot m.slot } →
      (a : IRNode) (xs ys : List IRNode) → node_children t a ≡ xs ++ BasicBlock m ∷ ys → IsPlaced t n (BasicBlock b) a
      (xs ++ BasicBlock b ∷ BasicBlock m ∷ ys)
  block_before n b m live_b live_m e a xs ys k =
      let lb = live_here (BasicBlock b) live_b in
      let lm = live_here (BasicBlock m) live_m in
      let v = over_block a xs ys m (ap (λ z. node_children z a) view ∙ k) in
      let h : node_children s (Region v.0) ≡ xs ++ BasicBlock m ∷ ys = ap (node_children s) (sym v.1.0) ∙ ap
      (λ z. node_children z a) view ∙ k in
      subst (λ z. IsPlaced t n (BasicBlock b) z (xs ++ BasicBlock b ∷ BasicBlock m ∷ ys)) (sym v.1.0)
      (seen n _ (BasicBlock b) (Region v.0) _ _ e (children_before s.blocks_in_region s.blocks s.regions w.blocks_listed
      BasicBlock b lb v.0 v.1.1 (λ i j f. ap slot_of f) m lm xs ys h)
      (block_put s w (with_before s.blocks_in_region b.slot m.slot) b v.0 (put_in b.slot m.slot
      (children_at s.blocks_in_region (v.0).slot)) lb v.1.1
      (IsPut-before s.blocks_in_region b.slot m.slot (v.0).slot (over_mark s.blocks_in_region s.blocks s.regions
      w.blocks_listed BasicBlock b lb v.0 v.1.1 (λ i j f. ap slot_of f) m lm xs ys h) (block_within s w b lb)
      (region_over s w v.0 v.1.1))))

  block_after : (n : Nodes O B) (b m : Ptr BlockKind) → is_node_live t (BasicBlock b) ≡ true → is_node_live t
      (BasicBlock m) ≡ true → n ≡ record s { blocks_in_region = with_after s.blocks_in_region b.slot m.slot } →
      (a : IRNode) (xs ys : List IRNode) → node_children t a ≡ xs ++ BasicBlock m ∷ ys → IsPlaced t n (BasicBlock b) a
      (xs ++ BasicBlock m ∷ BasicBlock b ∷ ys)
  block_after n b m live_b live_m e a xs ys k =
      let lb = live_here (BasicBlock b) live_b in
      let lm = live_here (BasicBlock m) live_m in
      let v = over_block a xs ys m (ap (λ z. node_children z a) view ∙ k) in
      let h : node_children s (Region v.0) ≡ xs ++ BasicBlock m ∷ ys = ap (node_children s) (sym v.1.0) ∙ ap
      (λ z. node_children z a) view ∙ k in
      subst (λ z. IsPlaced t n (BasicBlock b) z (xs ++ BasicBlock m ∷ BasicBlock b ∷ ys)) (sym v.1.0)
      (seen n _ (BasicBlock b) (Region v.0) _ _ e (children_after s.blocks_in_region s.blocks s.regions w.blocks_listed
      BasicBlock b lb v.0 v.1.1 (λ i j f. ap slot_of f) m lm xs ys h)
      (block_put s w (with_after s.blocks_in_region b.slot m.slot) b v.0 (put_in_after b.slot m.slot
      (children_at s.blocks_in_region (v.0).slot)) lb v.1.1
      (IsPut-after s.blocks_in_region b.slot m.slot (v.0).slot (over_mark s.blocks_in_region s.blocks s.regions
      w.blocks_listed BasicBlock b lb v.0 v.1.1 (λ i j f. ap slot_of f) m lm xs ys h) (block_within s w b lb)
      (region_over s w v.0 v.1.1))))

  -- at a point
  pub op_put_there : (n : Nodes O B) (o : Ptr OperationKind) (at : Point BlockKind OperationKind) → CanBePut t BasicBlock
      Operation o at → n ≡ with_op_put s o at → IsPutAt t BasicBlock Operation n o at
  op_put_there n o (AtFront b) c = op_first n o b c.live c.named_live
  op_put_there n o (AtBack b) c = op_last n o b c.live c.named_live
  op_put_there n o (Before m) c = op_before n o m c.live c.named_live
  op_put_there n o (After m) c = op_after n o m c.live c.named_live

  pub block_put_there : (n : Nodes O B) (b : Ptr BlockKind) (at : Point RegionKind BlockKind) → CanBePut t Region
      BasicBlock b at → n ≡ with_block_put s b at → IsPutAt t Region BasicBlock n b at
  block_put_there n b (AtFront r) c = block_first n b r c.live c.named_live
  block_put_there n b (AtBack r) c = block_last n b r c.live c.named_live
  block_put_there n b (Before m) c = block_before n b m c.live c.named_live
  block_put_there n b (After m) c = block_after n b m c.live c.named_live

  -- out of a list
  pub op_alone : (n : Nodes O B) (o : Ptr OperationKind) → is_node_live t (Operation o) ≡ true → n ≡ record s
      { ops_in_block = without_child s.ops_in_block o.slot } → IsUnlinked t n (Operation o)
  op_alone n o live e = subst (λ z. IsUnlinked z n (Operation o)) view (subst (λ z. IsUnlinked s z (Operation o))
      (sym e) (op_taken s w o (live_here (Operation o) live)))

  pub block_alone : (n : Nodes O B) (b : Ptr BlockKind) → is_node_live t (BasicBlock b) ≡ true → n ≡ record s
      { blocks_in_region = without_child s.blocks_in_region b.slot } → IsUnlinked t n (BasicBlock b)
  block_alone n b live e = subst (λ z. IsUnlinked z n (BasicBlock b)) view (subst (λ z. IsUnlinked s z (BasicBlock b))
      (sym e) (block_taken s w b (live_here (BasicBlock b) live)))
