-- One node more.
use Rattle.std.proofs.Common.{◌≡◌, ℕ, zero, suc, ◌+◌, ◌<◌, ◌≤◌, Bool, true, false, cond, ◌&&◌, nat_lt, nat_le, List, []}
use Rattle.std.proofs.Common.{◌∷◌, ◌++◌, length, map, Option, Some, None, IsSome, ◌⊎◌, inl, inr, refl, sym, ◌∙◌, ap}
use Rattle.std.proofs.Common.{subst, arith}
use Rattle.std.specs.Prelude.{option_map}
use Rattle.std.proofs.lemmas.Bool.{cases_eq}
use Rattle.std.proofs.lemmas.Option.{same_Some, none-some}
use Rattle.plir_store.specs.Lists.{Lists, children_at, parent_at, with_last}
use Rattle.plir_store.specs.Table.{Table, Cell, IsTable, content_at, version_at, is_live_at, next_slot, with_new}
use Rattle.plir_store.specs.TableLaws.{cell_at-with_new, cell_at-with_new_other, content_at-next_slot}
use Rattle.plir_core.specs.declared.ptr.Ptr.{Ptr}
use Rattle.plir_core.specs.declared.ptr.Operation.{Operation as OperationKind}
use Rattle.plir_core.specs.declared.ptr.BasicBlock.{BasicBlock as BasicBlockKind}
use Rattle.plir_core.specs.declared.ptr.Region.{Region as RegionKind}
use Rattle.plir_core.specs.declared.ptr.IRNode.{IRNode}
use Rattle.plir_core.specs.declared.ptr.IRNode.TheVariants.{Operation, Region, BasicBlock}
use Rattle.plir_core.specs.Above.{climb, Reaches}
use Rattle.plir_core.specs.Nodes.{Nodes, ptr_at, is_given_out, op_node, region_node, block_node, is_node_live}
use Rattle.plir_core.specs.Nodes.{was_given_out, node_children, node_parent}
use Rattle.plir_core.specs.Stored.{IsListing, IsStored}
use Rattle.std.proofs.Common.{length-set}
use Rattle.std.proofs.lemmas.List.{get_or-set_same, get_or-set_other, map-append}
use Rattle.plir_store.specs.Members.{Has}
use Rattle.plir_core.specs.Erase.{IsErased}
use Rattle.plir_core.proofs.Facts.{parent-live}
use Rattle.plir_core.specs.Edits.{SameNodes, room_child, with_new_op, with_new_block, with_new_region}
use Rattle.plir_core.proofs.NewNodes.{apart_new}
use Rattle.plir_core.specs.Made.{KeepsLive, IsAdded, IsRegionAdded, IsMade}
use Rattle.plir_core.proofs.Listing.{within_content, parent_at-room_child, parent_at-room_list, children_at-room_child}
use Rattle.plir_core.proofs.Listing.{children_at-room_list, children-room_child, loose, childless, some_none}
use Rattle.plir_core.proofs.Seats.{live_some, live_version, some_live, ptr_of_parts}

-- a map whose function changes at no element
map_on : {A : Type 0} (f g : ℕ → A) (xs : List ℕ) → ((i : ℕ) → Has xs i → f i ≡ g i) → map f xs ≡ map g xs
map_on f g [] e = refl
map_on f g (x ∷ xs) e = rw (e x (inl refl), map_on f g xs (λ i j. e i (inr j))) refl

given_more : (v a b : ℕ) → a ≤ b → (nat_lt 0 v && nat_le v a) ≡ true → (nat_lt 0 v && nat_le v b) ≡ true
given_more v a b h e = grind arith

given_none : (v a : ℕ) → v ≡ a + 1 → (nat_lt 0 v && nat_le v a) ≡ false
given_none v a e = grind arith

true_false : {b : Bool} → b ≡ true → b ≡ false → ⊥
true_false e f = cc

-- a table with one more value
module _ {C : Type 0} (t : Table C) (v : C) (w : IsTable t) where
  version_here : version_at (with_new t v) (next_slot t) ≡ version_at t (next_slot t) + 1
  version_here = ap (λ (z : Cell C). z.version) (cell_at-with_new t v w)

  content_here : content_at (with_new t v) (next_slot t) ≡ Some v
  content_here = ap (λ (z : Cell C). z.content) (cell_at-with_new t v w)

  not_here : (i : ℕ) → IsSome (content_at t i) → i ≡ next_slot t → ⊥
  not_here i some e = some_none (content_at t i) some (ap (content_at t) e ∙ content_at-next_slot t w)

  content_other : (i : ℕ) → (i ≡ next_slot t → ⊥) → content_at (with_new t v) i ≡ content_at t i
  content_other i n = ap (λ (z : Cell C). z.content) (cell_at-with_new_other t v i n)

  version_other : (i : ℕ) → (i ≡ next_slot t → ⊥) → version_at (with_new t v) i ≡ version_at t i
  version_other i n = ap (λ (z : Cell C). z.version) (cell_at-with_new_other t v i n)

  ptr_grown : {X : Type 0} (i : ℕ) → IsSome (content_at t i) → ptr_at {X = X} (with_new t v) i ≡ ptr_at t i
  ptr_grown i some = ptr_of_parts (ptr_at (with_new t v) i) (ptr_at t i) refl (version_other i (not_here i some))

  live_grown : (i x : ℕ) → is_live_at t i x ≡ true → is_live_at (with_new t v) i x ≡ true
  live_grown i x e = let n = not_here i (live_some t i x e) in rw (content_other i n, version_other i n) e

  content_grown : (i x : ℕ) → is_live_at t i x ≡ true → content_at (with_new t v) i ≡ content_at t i
  content_grown i x e = content_other i (not_here i (live_some t i x e))

  version_grown : (i : ℕ) → version_at t i ≤ version_at (with_new t v) i
  version_grown i = elim (cases_eq i (next_slot t)) [
    | inl q ↦ rw q (let e = version_here in omega arith)
    | inr n ↦ let e = version_other i n in omega arith
  ]

  given_grown : {X : Type 0} (p : Ptr X) → is_given_out t p ≡ true → is_given_out (with_new t v) p ≡ true
  given_grown p e = given_more p.version (version_at t p.slot) (version_at (with_new t v) p.slot) (version_grown p.slot)
      e

  -- the new value's pointer
  module _ {X : Type 0} (p : Ptr X) (is : p ≡ ptr_at (with_new t v) (next_slot t)) where
    slot_is : p.slot ≡ next_slot t
    slot_is = ap (λ (z : Ptr X). z.slot) is

    version_is : p.version ≡ version_at t (next_slot t) + 1
    version_is = ap (λ (z : Ptr X). z.version) is ∙ version_here

    ptr_dead : is_live_at t p.slot p.version ≡ false
    ptr_dead = rw (slot_is, content_at-next_slot t w) refl

    ptr_live : is_live_at (with_new t v) p.slot p.version ≡ true
    ptr_live = subst (λ z. is_live_at (with_new t v) z.slot z.version ≡ true) (sym is)
        (some_live (with_new t v) (next_slot t) (rw content_here refl))

    ptr_fresh : is_given_out t p ≡ false
    ptr_fresh = given_none p.version (version_at t p.slot) (version_is ∙ ap (λ z. version_at t z + 1) (sym slot_is))

    -- no other pointer has come to life
    ptr_only : (q : Ptr X) → is_live_at (with_new t v) q.slot q.version ≡ true → is_live_at t q.slot q.version ≡ false →
        q ≡ p
    ptr_only q e f = elim (cases_eq q.slot (next_slot t)) [
      | inl h ↦ ptr_of_parts q (ptr_at (with_new t v) (next_slot t)) h (sym (live_version (with_new t v) q.slot q.version e)
          ∙ ap (version_at (with_new t v)) h) ∙ sym is
      | inr n ↦ absurd (true_false (rw (content_other q.slot n, version_other q.slot n) at e) f)
    ]

-- the words over lists of which the one or the other table has grown
module _ {C P : Type 0} (l : Lists) (t : Table C) (u : Table P) (w : IsListing l t u) where
  children_grown : {A X : Type 0} (f : Ptr X → A) (v : C) → IsTable t → (p : ℕ) → map
      (λ i. f (ptr_at (with_new t v) i)) (children_at l p) ≡ map (λ i. f (ptr_at t i)) (children_at l p)
  children_grown f v s p = map_on (λ i. f (ptr_at (with_new t v) i)) (λ i. f (ptr_at t i)) (children_at l p)
      (λ i j. ap f (ptr_grown t v s i ((w.linked_live i p (w.agreed.owned p i j)).0)))

  over_in : {A X : Type 0} (f : Ptr X → A) (v : P) → IsTable u → (c : ℕ) (o : Option ℕ) → parent_at l c ≡ o → option_map
      (λ i. f (ptr_at (with_new u v) i)) o ≡ option_map (λ i. f (ptr_at u i)) o
  over_in f v s c None e = refl
  over_in f v s c (Some q) e = ap (λ z. Some (f z)) (ptr_grown u v s q ((w.linked_live c q e).1))

  over_grown : {A X : Type 0} (f : Ptr X → A) (v : P) → IsTable u → (c : ℕ) → option_map
      (λ i. f (ptr_at (with_new u v) i)) (parent_at l c) ≡ option_map (λ i. f (ptr_at u i)) (parent_at l c)
  over_grown f v s c = over_in f v s c (parent_at l c) refl

module _ {O B : Type 0} (s : Nodes O B) (w : IsStored s) where
  pub IsAdded-op : (v : O) (p : Ptr OperationKind) → p ≡ ptr_at (with_new s.ops v) (next_slot s.ops) → IsAdded s
      (with_new_op s v) (Operation p) None
  IsAdded-op v p is =
      let t = with_new_op s v in
      record {
        keeps = record {
          live = elim [
            | Operation q ↦ λ e. live_grown s.ops v w.op_slots q.slot q.version e
            | Region q ↦ λ e. e
            | BasicBlock q ↦ λ e. e
          ];
          parents = elim [
            | Operation q ↦ λ e. rw (
              live_grown s.ops v w.op_slots q.slot q.version e,
              e,
              parent_at-room_child
                  s.ops_in_block s.ops.free q.slot,
            ) refl
            | Region q ↦ λ e. ap (λ o. cond (is_live_at s.regions q.slot q.version) o None)
                (ap (option_map (op_node t)) (parent_at-room_list s.regions_in_op s.ops.free q.slot) ∙ over_grown
                s.regions_in_op s.regions s.ops w.regions_listed Operation v w.op_slots q.slot)
            | BasicBlock q ↦ λ e. refl
          ];
          ops = λ q e. content_grown s.ops v w.op_slots q.slot q.version e;
          blocks = λ q e. refl;
          given = elim [
            | Operation q ↦ λ e. given_grown s.ops v w.op_slots q e
            | Region q ↦ λ e. e
            | BasicBlock q ↦ λ e. e
          ];
          limit = refl;
        };
        children = elim [
          | Operation q ↦ λ e n. rw (
            live_grown s.ops v w.op_slots q.slot q.version e,
            e,
            children_at-room_list
                s.regions_in_op s.ops.free q.slot,
          ) refl
          | Region q ↦ λ e n. refl
          | BasicBlock q ↦ λ e n. ap (λ o. cond (is_live_at s.blocks q.slot q.version) o [])
              (ap (map (op_node t)) (children_at-room_child s.ops_in_block s.ops.free q.slot) ∙ children_grown
              s.ops_in_block s.ops s.blocks w.ops_listed Operation v w.op_slots q.slot)
        ];
        new = ptr_dead s.ops v w.op_slots p is;
        fresh = ptr_fresh s.ops v w.op_slots p is;
        added = ptr_live s.ops v w.op_slots p is;
        placed = rw (
          ptr_live s.ops v w.op_slots p is,
          parent_at-room_child s.ops_in_block s.ops.free p.slot,
          loose
              s.ops_in_block s.ops s.blocks w.ops_listed p.slot (rw (slot_is s.ops v w.op_slots p is)
              (content_at-next_slot s.ops w.op_slots)),
        ) refl;
        leaf = rw (
          ptr_live s.ops v w.op_slots p is,
          children_at-room_list s.regions_in_op s.ops.free p.slot,
          childless
              s.regions_in_op s.regions s.ops w.regions_listed p.slot (rw (slot_is s.ops v w.op_slots p is)
              (content_at-next_slot s.ops w.op_slots)),
        ) refl;
        only = elim [
          | Operation q ↦ λ e f. ap Operation (ptr_only s.ops v w.op_slots p is q e f)
          | Region q ↦ λ e f. absurd (true_false e f)
          | BasicBlock q ↦ λ e f. absurd (true_false e f)
        ];
      }

  pub IsAdded-block : (v : B) (p : Ptr BasicBlockKind) → p ≡ ptr_at (with_new s.blocks v) (next_slot s.blocks) → IsAdded
      s (with_new_block s v) (BasicBlock p) None
  IsAdded-block v p is =
      let t = with_new_block s v in
      record {
        keeps = record {
          live = elim [
            | Operation q ↦ λ e. e
            | Region q ↦ λ e. e
            | BasicBlock q ↦ λ e. live_grown s.blocks v w.block_slots q.slot q.version e
          ];
          parents = elim [
            | Operation q ↦ λ e. ap (λ o. cond (is_live_at s.ops q.slot q.version) o None)
                (ap (option_map (block_node t)) (parent_at-room_list s.ops_in_block s.blocks.free q.slot) ∙ over_grown
                s.ops_in_block s.ops s.blocks w.ops_listed BasicBlock v w.block_slots q.slot)
            | Region q ↦ λ e. refl
            | BasicBlock q ↦ λ e. rw (
              live_grown s.blocks v w.block_slots q.slot q.version e,
              e,
              parent_at-room_child
                  s.blocks_in_region s.blocks.free q.slot,
            ) refl
          ];
          ops = λ q e. refl;
          blocks = λ q e. content_grown s.blocks v w.block_slots q.slot q.version e;
          given = elim [
            | Operation q ↦ λ e. e
            | Region q ↦ λ e. e
            | BasicBlock q ↦ λ e. given_grown s.blocks v w.block_slots q e
          ];
          limit = refl;
        };
        children = elim [
          | Operation q ↦ λ e n. refl
          | Region q ↦ λ e n. ap (λ o. cond (is_live_at s.regions q.slot q.version) o [])
              (ap (map (block_node t)) (children_at-room_child s.blocks_in_region s.blocks.free q.slot) ∙ children_grown
              s.blocks_in_region s.blocks s.regions w.blocks_listed BasicBlock v w.block_slots q.slot)
          | BasicBlock q ↦ λ e n. rw (
            live_grown s.blocks v w.block_slots q.slot q.version e,
            e,
            children_at-room_list
                s.ops_in_block s.blocks.free q.slot,
          ) refl
        ];
        new = ptr_dead s.blocks v w.block_slots p is;
        fresh = ptr_fresh s.blocks v w.block_slots p is;
        added = ptr_live s.blocks v w.block_slots p is;
        placed = rw (
          ptr_live s.blocks v w.block_slots p is,
          parent_at-room_child s.blocks_in_region s.blocks.free
              p.slot,
          loose s.blocks_in_region s.blocks s.regions w.blocks_listed p.slot
              (rw (slot_is s.blocks v w.block_slots p is) (content_at-next_slot s.blocks w.block_slots)),
        ) refl;
        leaf = rw (
          ptr_live s.blocks v w.block_slots p is,
          children_at-room_list s.ops_in_block s.blocks.free p.slot,
          childless s.ops_in_block s.ops s.blocks w.ops_listed p.slot (rw (slot_is s.blocks v w.block_slots p is)
              (content_at-next_slot s.blocks w.block_slots)),
        ) refl;
        only = elim [
          | Operation q ↦ λ e f. absurd (true_false e f)
          | Region q ↦ λ e f. absurd (true_false e f)
          | BasicBlock q ↦ λ e f. ap BasicBlock (ptr_only s.blocks v w.block_slots p is q e f)
        ];
      }

  -- the lists of regions with the new one at the end of those of o
  region_lists : ℕ → Lists
  region_lists o = with_last (room_child s.regions_in_op s.regions.free) o (next_slot s.regions)

  region_parent_other : (o i : ℕ) → (i ≡ next_slot s.regions → ⊥) → parent_at (region_lists o) i ≡ parent_at
      s.regions_in_op i
  unfolding region_lists
  region_parent_other o i n = get_or-set_other (room_child s.regions_in_op s.regions.free).parents (next_slot s.regions)
      i (Some o) None n ∙ parent_at-room_child s.regions_in_op s.regions.free i

  region_children_other : (o p : ℕ) → (p ≡ o → ⊥) → children_at (region_lists o) p ≡ children_at s.regions_in_op p
  unfolding region_lists
  region_children_other o p n = get_or-set_other (room_child s.regions_in_op s.regions.free).children o p _ [] n ∙
      children_at-room_child s.regions_in_op s.regions.free p

  pub IsAdded-region : (o : Ptr OperationKind) (p : Ptr RegionKind) → is_node_live s (Operation o) ≡ true → IsStored
      (with_new_region s o.slot) → p ≡ ptr_at (with_new s.regions (record {})) (next_slot s.regions) → IsAdded s
      (with_new_region s o.slot) (Region p) (Some (Operation o))
  unfolding region_lists
  IsAdded-region o p live f is =
      let t = with_new_region s o.slot in
      let v : RegionKind = record {} in
      let here : parent_at t.regions_in_op (next_slot s.regions) ≡ Some o.slot =
      get_or-set_same (room_child s.regions_in_op s.regions.free).parents (next_slot s.regions) (Some o.slot) None
      (let h = within_content (with_new s.regions v) (next_slot s.regions) (rw
      (content_here s.regions v w.region_slots) refl) in let c = f.regions_listed.child_places in let d = length-set
      (room_child s.regions_in_op s.regions.free).parents (next_slot s.regions) (Some o.slot) in omega arith) in
      record {
        keeps = record {
          live = elim [
            | Operation q ↦ λ e. e
            | Region q ↦ λ e. live_grown s.regions v w.region_slots q.slot q.version e
            | BasicBlock q ↦ λ e. e
          ];
          parents = elim [
            | Operation q ↦ λ e. refl
            | Region q ↦ λ e. rw (
              live_grown s.regions v w.region_slots q.slot q.version e,
              e,
              region_parent_other
                  o.slot q.slot (not_here s.regions v w.region_slots q.slot (live_some s.regions q.slot q.version e)),
            )
                refl
            | BasicBlock q ↦ λ e. ap (λ o. cond (is_live_at s.blocks q.slot q.version) o None)
                (ap (option_map (region_node t)) (parent_at-room_list s.blocks_in_region s.regions.free q.slot) ∙
                over_grown s.blocks_in_region s.blocks s.regions w.blocks_listed Region v w.region_slots q.slot)
          ];
          ops = λ q e. refl;
          blocks = λ q e. refl;
          given = elim [
            | Operation q ↦ λ e. e
            | Region q ↦ λ e. given_grown s.regions v w.region_slots q e
            | BasicBlock q ↦ λ e. e
          ];
          limit = refl;
        };
        children = elim [
          | Operation q ↦ λ e n. rw (region_children_other o.slot q.slot (λ g. n
              (ap (λ z. Some (Operation z)) (sym (same_op q g e))))) (ap (λ ks. cond (is_live_at s.ops q.slot q.version)
              ks []) (children_grown s.regions_in_op s.regions s.ops w.regions_listed Region v w.region_slots q.slot))
          | Region q ↦ λ e n. rw (
            live_grown s.regions v w.region_slots q.slot q.version e,
            e,
            children_at-room_list
                s.blocks_in_region s.regions.free q.slot,
          ) refl
          | BasicBlock q ↦ λ e n. refl
        ];
        new = ptr_dead s.regions v w.region_slots p is;
        fresh = ptr_fresh s.regions v w.region_slots p is;
        added = ptr_live s.regions v w.region_slots p is;
        placed = rw (ptr_live s.regions v w.region_slots p is, slot_is s.regions v w.region_slots p is, here)
            (ap (λ z. Some (Operation z)) (ptr_of_parts (ptr_at s.ops o.slot) o refl
            (live_version s.ops o.slot o.version live)));
        leaf = rw (
          ptr_live s.regions v w.region_slots p is,
          children_at-room_list s.blocks_in_region s.regions.free
              p.slot,
          childless s.blocks_in_region s.blocks s.regions w.blocks_listed p.slot
              (rw (slot_is s.regions v w.region_slots p is) (content_at-next_slot s.regions w.region_slots)),
        ) refl;
        only = elim [
          | Operation q ↦ λ e f. absurd (true_false e f)
          | Region q ↦ λ e f. ap Region (ptr_only s.regions v w.region_slots p is q e f)
          | BasicBlock q ↦ λ e f. absurd (true_false e f)
        ];
      }
    where
      same_op : (q : Ptr OperationKind) → q.slot ≡ o.slot → is_live_at s.ops q.slot q.version ≡ true → q ≡ o
      same_op q g e = ptr_of_parts q o g (sym (live_version s.ops q.slot q.version e) ∙ ap (version_at s.ops) g ∙
          live_version s.ops o.slot o.version live)

  -- the regions of o with the new one
  region_children_here : (o : ℕ) → o < length s.ops.slots → children_at (region_lists o) o ≡ children_at s.regions_in_op
      o ++ next_slot s.regions ∷ []
  unfolding region_lists
  region_children_here o h =
      get_or-set_same (room_child s.regions_in_op s.regions.free).children o (children_at
      (room_child s.regions_in_op s.regions.free) o ++ next_slot s.regions ∷ []) []
      (let c = ap length (children-room_child s.regions_in_op s.regions.free) in let d =
      w.regions_listed.parent_places in omega arith)
      ∙ ap (λ ks. ks ++ next_slot s.regions ∷ []) (children_at-room_child s.regions_in_op s.regions.free o)

  region_last : (o : Ptr OperationKind) (p : Ptr RegionKind) → is_node_live s (Operation o) ≡ true → p ≡ ptr_at
      (with_new s.regions (record {})) (next_slot s.regions) → node_children (with_new_region s o.slot) (Operation o) ≡
      node_children s (Operation o) ++ Region p ∷ []
  unfolding region_lists
  region_last o p live is =
      let t = with_new_region s o.slot in
      rw (
        live,
        region_children_here o.slot (within_content s.ops o.slot (live_some s.ops o.slot o.version live)),
        map-append (region_node t) (children_at s.regions_in_op o.slot) (next_slot s.regions ∷ []),
      )
      (ap (λ ks. ks ++ region_node t (next_slot s.regions) ∷ []) (children_grown s.regions_in_op s.regions s.ops
      w.regions_listed Region (record {}) w.region_slots o.slot)
      ∙ ap (λ z. map (region_node s) (children_at s.regions_in_op o.slot) ++ Region z ∷ []) (sym is))

-- a region is made: t is what the nodes are then
pub IsRegionAdded-made : {O B : Type 0} (s t : Nodes O B) → IsStored s → (o : Ptr OperationKind) (p : Ptr RegionKind) →
    is_node_live s (Operation o) ≡ true → t ≡ with_new_region s o.slot → IsStored t → p ≡ ptr_at t.regions
    (next_slot s.regions) → IsRegionAdded s t (Operation o) (Region p)
IsRegionAdded-made {O} {B} s t w o p live e f is =
    let here : p ≡ ptr_at (with_new s.regions (record {})) (next_slot s.regions) = is ∙ ap
    (λ (z : Nodes O B). ptr_at z.regions (next_slot s.regions)) e in
    subst (λ z. IsRegionAdded s z (Operation o) (Region p)) (sym e) (record {
      added = IsAdded-region s w o p live (subst IsStored e f) here;
      last = region_last s w o p live here;
    })

not_given : (b c : Bool) → (b ≡ true → c ≡ true) → c ≡ false → b ≡ false
not_given true c f e = absurd (true_false (f refl) e)
not_given false c f e = refl

true_or_false : (b : Bool) → (b ≡ true) ⊎ (b ≡ false)
true_or_false true = inl refl
true_or_false false = inr refl

climb_nothing : (up : IRNode → Option IRNode) (k : ℕ) → climb up k None ≡ None
climb_nothing up zero = refl
climb_nothing up (suc k) = refl

climb_from : (up up' : IRNode → Option IRNode) (k : ℕ) (o : Option IRNode) (n : IRNode) →
    ((b : IRNode) → o ≡ Some b → climb up k (Some b) ≡ Some n → climb up' k (Some b) ≡ Some n) → climb up k o ≡ Some n →
    climb up' k o ≡ Some n
climb_from up up' k None n f c = absurd (none-some n (sym (climb_nothing up k) ∙ c))
climb_from up up' k (Some b) n f c = f b refl c

-- Trees that are made, one node after another.
module _ {O B : Type 0} where
  dead_children : (s : Nodes O B) (n : IRNode) → is_node_live s n ≡ false → node_children s n ≡ []
  dead_children s n e = rw e refl

  dead_over : (s : Nodes O B) (n : IRNode) → is_node_live s n ≡ false → node_parent s n ≡ None
  dead_over s n e = rw e refl

  pub IsMade-first : (s t : Nodes O B) → IsStored s → (n : IRNode) → IsAdded s t n None → IsMade s t n
  IsMade-first s t w n a = record {
    keeps = a.keeps;
    children = λ m e. a.children m e (λ q. none-some m q);
    new = a.new;
    root = a.added;
    top = a.placed;
    below = λ m e f. (0, ap (λ z. Some z) (a.only m e f));
    fresh = λ m e f. subst (λ z. was_given_out s z ≡ false) (sym (a.only m e f)) a.fresh;
    apart = apart_new s t w a.keeps n a.new;
  }

  -- a block is made: t is what the nodes are then
  pub IsAdded-made_block : (s t : Nodes O B) → IsStored s → (v : B) (p : Ptr BasicBlockKind) → t ≡ with_new_block s v →
      p ≡ ptr_at t.blocks (next_slot s.blocks) → IsAdded s t (BasicBlock p) None
  IsAdded-made_block s t w v p e is =
      subst (λ z. IsAdded s z (BasicBlock p) None) (sym e) (IsAdded-block s w v p
      (is ∙ ap (λ (z : Nodes O B). ptr_at z.blocks (next_slot s.blocks)) e))

  -- what is reached stays reached
  pub climb_kept : (t u : Nodes O B) → IsStored t → KeepsLive t u → (k : ℕ) (m n : IRNode) → is_node_live t m ≡ true →
      climb (node_parent t) k (Some m) ≡ Some n → climb (node_parent u) k (Some m) ≡ Some n
  climb_kept t u w x zero m n e c = c
  climb_kept t u w x (suc k) m n e c = rw (x.parents m e) (climb_from (node_parent t) (node_parent u) k
      (node_parent t m) n (λ b q d. climb_kept t u w x k b n (parent-live t w b m q) d) c)

  -- what is kept in two steps is kept
  pub KeepsLive-on : (s t u : Nodes O B) → KeepsLive s t → KeepsLive t u → KeepsLive s u
  KeepsLive-on s t u k l = record {
    live = λ x e. l.live x (k.live x e);
    parents = λ x e. l.parents x (k.live x e) ∙ k.parents x e;
    ops = λ p e. l.ops p (k.live (Operation p) e) ∙ k.ops p e;
    blocks = λ p e. l.blocks p (k.live (BasicBlock p) e) ∙ k.blocks p e;
    given = λ x e. l.given x (k.given x e);
    limit = l.limit ∙ k.limit;
  }

  -- one more node under the root
  pub IsMade-more : (s t u : Nodes O B) → IsStored s → IsStored t → (n r : IRNode) → IsMade s t n → IsAdded t u r
      (Some n) → IsMade s u n
  IsMade-more s t u v w n r m a = record {
    keeps = KeepsLive-on s t u m.keeps a.keeps;
    children = λ x e. a.children x (m.keeps.live x e) (λ q. true_false e (subst (λ z. is_node_live s z ≡ false)
        (same_Some n x q) m.new)) ∙ m.children x e;
    new = m.new;
    root = a.keeps.live n m.root;
    top = a.keeps.parents n m.root ∙ m.top;
    below = λ x e f. elim (true_or_false (is_node_live t x)) [
      | inl g ↦ let y = m.below x g f in (y.0, climb_kept t u w a.keeps y.0 x n g y.1)
      | inr g ↦ (1, ap (node_parent u) (a.only x e g) ∙ a.placed)
    ];
    fresh = λ x e f. elim (true_or_false (is_node_live t x)) [
      | inl g ↦ m.fresh x g f
      | inr g ↦ not_given (was_given_out s x) (was_given_out t x) (m.keeps.given x)
          (subst (λ z. was_given_out t z ≡ false) (sym (a.only x e g)) a.fresh)
    ];
    apart = apart_new s u v (KeepsLive-on s t u m.keeps a.keeps) n m.new;
  }

  -- A tree that was made and is erased again: no live node has changed.
  module _ (s t u : Nodes O B) (v : IsStored s) (n : IRNode) (m : IsMade s t n) (x : IsErased t u n) where
    dead_apart : (y : IRNode) → is_node_live t y ≡ false → Reaches (node_parent t) y n → ⊥
    dead_apart y e r = dead_climb r.0 r.1
      where
        dead_parent : node_parent t y ≡ None
        dead_parent = rw e refl

        dead_climb : (k : ℕ) → climb (node_parent t) k (Some y) ≡ Some n → ⊥
        dead_climb zero c = true_false (subst (λ z. is_node_live t z ≡ true) (sym (same_Some y n c)) m.root) e
        dead_climb (suc k) c = none-some n (sym (ap (climb (node_parent t) k) dead_parent ∙ climb_nothing
            (node_parent t) k) ∙ c)

    same_live : (y : IRNode) → is_node_live u y ≡ is_node_live s y
    same_live y = elim (true_or_false (is_node_live s y)) [
      | inl e ↦ x.live y (m.apart y e) ∙ m.keeps.live y e ∙ sym e
      | inr e ↦ elim (true_or_false (is_node_live t y)) [
        | inl f ↦ x.gone y (m.below y f e) ∙ sym e
        | inr f ↦ x.live y (dead_apart y f) ∙ f ∙ sym e
      ]
    ]

    pub SameNodes-unmade : SameNodes s u
    SameNodes-unmade = record {
      live = same_live;
      children = λ y. elim (true_or_false (is_node_live s y)) [
        | inl e ↦ x.children y (m.apart y e) (λ q. none-some y (sym m.top ∙ q)) ∙ m.children y e
        | inr e ↦ dead_children u y (same_live y ∙ e) ∙ sym (dead_children s y e)
      ];
      parents = λ y. elim (true_or_false (is_node_live s y)) [
        | inl e ↦ x.parents y (m.apart y e) ∙ m.keeps.parents y e
        | inr e ↦ dead_over u y (same_live y ∙ e) ∙ sym (dead_over s y e)
      ];
      ops = λ p e. x.ops p (same_live (Operation p) ∙ e) ∙ m.keeps.ops p e;
      blocks = λ p e. x.blocks p (same_live (BasicBlock p) ∙ e) ∙ m.keeps.blocks p e;
      limit = x.limit ∙ m.keeps.limit;
    }
