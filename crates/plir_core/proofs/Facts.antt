-- What holds of the nodes of every forest: children and parents agree, children stand once, what is linked is live, and
-- what is
-- live was given out.
use Rattle.std.proofs.Common.{◌≡◌, ℕ, ◌<◌, true, false, cond, List, [], map, Option, Some, None, IsSome, is_some, refl}
use Rattle.std.proofs.Common.{sym, ap, subst, arith, eqb, eq-eqb}
use Rattle.std.specs.Prelude.{option_map, nat_lt, nat_le}
use Rattle.std.proofs.lemmas.Bool.{eqb-true, and_parts, and_from}
use Rattle.std.proofs.lemmas.Option.{same_Some, none-some}
use Rattle.plir_store.specs.Lists.{Lists, children_at, parent_at}
use Rattle.plir_store.specs.Table.{Table, IsTable, content_at, version_at, is_live_at}
use Rattle.plir_core.specs.declared.ptr.Ptr.{Ptr}
use Rattle.plir_core.specs.declared.ptr.IRNode.{IRNode}
use Rattle.plir_core.specs.declared.ptr.IRNode.TheVariants.{Operation, Region, BasicBlock}
use Rattle.plir_store.specs.MemberLaws.{Has-map, map-Has, Distinct-map}
use Rattle.plir_store.specs.Members.{Has, Distinct}
use Rattle.plir_core.specs.Nodes.{Nodes, ptr_at, is_given_out, is_node_live, was_given_out, node_children, node_parent}
use Rattle.plir_core.specs.Stored.{IsListing, IsStored}
use Rattle.plir_core.proofs.Listing.{within_content}

pub live_parts : {C : Type 0} (t : Table C) (i v : ℕ) → is_live_at t i v ≡ true → IsSome (content_at t i) ×
    (version_at t i ≡ v)
live_parts t i v e = let r = and_parts (is_some (content_at t i)) (eqb (version_at t i) v) e in
    (r.0, eqb-true (version_at t i) v r.1)

pub live_at : {C : Type 0} (t : Table C) (i : ℕ) → IsSome (content_at t i) → is_live_at t i (version_at t i) ≡ true
live_at t i some = and_from (is_some (content_at t i)) (eqb (version_at t i) (version_at t i)) some
    (eq-eqb (version_at t i) (version_at t i) refl)

-- the pointer to what a slot holds is the live one
pub ptr_is : {C X : Type 0} (t : Table C) (p : Ptr X) → is_live_at t p.slot p.version ≡ true → ptr_at t p.slot ≡ p
ptr_is {X} t p e = ap (λ v. let q : Ptr X = record { slot = p.slot; version = v; kind = record {} } in q)
    ((live_parts t p.slot p.version e).1)

abbrev pub slot_of : IRNode → ℕ
slot_of (Operation p) = p.slot
slot_of (Region p) = p.slot
slot_of (BasicBlock p) = p.slot

-- One of the three kinds of lists: `child` and `over` make nodes of the pointers.
module _ {C P X Y : Type 0} (l : Lists) (t : Table C) (u : Table P) (w : IsListing l t u) (as_node : Ptr X → IRNode)
    (over : Ptr Y → IRNode) where
  abbrev children_word : Ptr Y → List IRNode
  children_word p = cond (is_live_at u p.slot p.version) (map (λ i. as_node (ptr_at t i)) (children_at l p.slot)) []

  abbrev parent_word : Ptr X → Option IRNode
  parent_word q = cond (is_live_at t q.slot q.version) (option_map (λ i. over (ptr_at u i)) (parent_at l q.slot)) None

  record IsChild (p : Ptr Y) (x : IRNode) : Type 0 where
    ptr : Ptr X
    is : x ≡ as_node ptr
    parent : parent_word ptr ≡ Some (over p)
    live : is_live_at t ptr.slot ptr.version ≡ true

  record IsOver (q : Ptr X) (n : IRNode) : Type 0 where
    ptr : Ptr Y
    is : n ≡ over ptr
    child : Has (children_word ptr) (as_node q)
    live : is_live_at u ptr.slot ptr.version ≡ true

  child_in : (p : Ptr Y) (x : IRNode) → is_live_at u p.slot p.version ≡ true → Has
      (map (λ i. as_node (ptr_at t i)) (children_at l p.slot)) x → IsChild p x
  child_in p x e h =
      let r = Has-map (λ i. as_node (ptr_at t i)) (children_at l p.slot) x h in
      let par = w.agreed.owned p.slot r.0 r.1.0 in
      let live : is_live_at t r.0 (version_at t r.0) ≡ true = live_at t r.0 ((w.linked_live r.0 p.slot par).0) in
      record {
        ptr = ptr_at t r.0;
        is = sym r.1.1;
        parent = rw (live, par) (ap (λ z. Some (over z)) (ptr_is u p e));
        live = live;
      }

  is_child : (p : Ptr Y) (x : IRNode) → Has (children_word p) x → IsChild p x
  is_child p x = elim (is_live_at u p.slot p.version) as (λ b. is_live_at u p.slot p.version ≡ b → Has
      (cond b (map (λ i. as_node (ptr_at t i)) (children_at l p.slot)) []) x → IsChild p x) [
        | true ↦ λ e h. child_in p x e h
        | false ↦ λ e h. absurd h
      ] refl

  over_in : (q : Ptr X) (n : IRNode) (o : Option ℕ) → is_live_at t q.slot q.version ≡ true → parent_at l q.slot ≡ o →
      option_map (λ i. over (ptr_at u i)) o ≡ Some n → IsOver q n
  over_in q n None e f g = absurd (none-some n g)
  over_in q n (Some i) e f g =
      let live : is_live_at u i (version_at u i) ≡ true = live_at u i ((w.linked_live q.slot i f).1) in
      record {
        ptr = ptr_at u i;
        is = sym (same_Some (over (ptr_at u i)) n g);
        child = rw live (subst (λ z. Has (map (λ j. as_node (ptr_at t j)) (children_at l i)) (as_node z)) (ptr_is t q e)
            (map-Has (λ j. as_node (ptr_at t j)) (children_at l i) q.slot (w.agreed.held i q.slot f)));
        live = live;
      }

  is_over : (q : Ptr X) (n : IRNode) → parent_word q ≡ Some n → IsOver q n
  is_over q n = elim (is_live_at t q.slot q.version) as (λ b. is_live_at t q.slot q.version ≡ b → cond b
      (option_map (λ i. over (ptr_at u i)) (parent_at l q.slot)) None ≡ Some n → IsOver q n) [
        | true ↦ λ e h. over_in q n (parent_at l q.slot) e refl h
        | false ↦ λ e h. absurd (none-some n h)
      ] refl

  children_once : ((i j : ℕ) → as_node (ptr_at t i) ≡ as_node (ptr_at t j) → i ≡ j) → (p : Ptr Y) → Distinct
      (children_word p)
  children_once one p = elim (is_live_at u p.slot p.version) as
      (λ b. Distinct (cond b (map (λ i. as_node (ptr_at t i)) (children_at l p.slot)) [])) [
        | true ↦ Distinct-map (λ i. as_node (ptr_at t i)) one (children_at l p.slot) (w.agreed.apart p.slot)
        | false ↦ tt
      ]

given_in : {C X : Type 0} (t : Table C) (w : IsTable t) (p : Ptr X) → is_live_at t p.slot p.version ≡ true →
    is_given_out t p ≡ true
given_in t w p e =
    let r = live_parts t p.slot p.version e in
    let pos : 0 < version_at t p.slot = w.used p.slot (within_content t p.slot r.0) in
    and_from (nat_lt 0 p.version) (nat_le p.version (version_at t p.slot)) (grind arith) (grind arith)

module _ {O B : Type 0} (s : Nodes O B) (w : IsStored s) where
  -- a child's parent is the node
  pub child-parent : (a x : IRNode) → Has (node_children s a) x → node_parent s x ≡ Some a
  child-parent (Operation p) x h = let k = is_child s.regions_in_op s.regions s.ops w.regions_listed Region Operation p
      x h in rw k.is k.parent
  child-parent (Region p) x h = let k = is_child s.blocks_in_region s.blocks s.regions w.blocks_listed BasicBlock Region
      p x h in rw k.is k.parent
  child-parent (BasicBlock p) x h = let k = is_child s.ops_in_block s.ops s.blocks w.ops_listed Operation BasicBlock p x
      h in rw k.is k.parent

  -- children are live
  pub child-live : (a x : IRNode) → Has (node_children s a) x → is_node_live s x ≡ true
  child-live (Operation p) x h = let k = is_child s.regions_in_op s.regions s.ops w.regions_listed Region Operation p x
      h in rw k.is k.live
  child-live (Region p) x h = let k = is_child s.blocks_in_region s.blocks s.regions w.blocks_listed BasicBlock Region p
      x h in rw k.is k.live
  child-live (BasicBlock p) x h = let k = is_child s.ops_in_block s.ops s.blocks w.ops_listed Operation BasicBlock p x h
      in rw k.is k.live

  -- a node with that parent is among its children
  pub parent-child : (a x : IRNode) → node_parent s x ≡ Some a → Has (node_children s a) x
  parent-child a (Operation q) e = let k = is_over s.ops_in_block s.ops s.blocks w.ops_listed Operation BasicBlock q a e
      in rw k.is k.child
  parent-child a (Region q) e = let k = is_over s.regions_in_op s.regions s.ops w.regions_listed Region Operation q a e
      in rw k.is k.child
  parent-child a (BasicBlock q) e = let k = is_over s.blocks_in_region s.blocks s.regions w.blocks_listed BasicBlock
      Region q a e in rw k.is k.child

  -- parents are live
  pub parent-live : (a x : IRNode) → node_parent s x ≡ Some a → is_node_live s a ≡ true
  parent-live a (Operation q) e = let k = is_over s.ops_in_block s.ops s.blocks w.ops_listed Operation BasicBlock q a e
      in rw k.is k.live
  parent-live a (Region q) e = let k = is_over s.regions_in_op s.regions s.ops w.regions_listed Region Operation q a e
      in rw k.is k.live
  parent-live a (BasicBlock q) e = let k = is_over s.blocks_in_region s.blocks s.regions w.blocks_listed BasicBlock
      Region q a e in rw k.is k.live

  -- children stand once
  pub children-once : (a : IRNode) → Distinct (node_children s a)
  children-once (Operation p) = children_once s.regions_in_op s.regions s.ops w.regions_listed Region Operation
      (λ i j e. ap slot_of e) p
  children-once (Region p) = children_once s.blocks_in_region s.blocks s.regions w.blocks_listed BasicBlock Region
      (λ i j e. ap slot_of e) p
  children-once (BasicBlock p) = children_once s.ops_in_block s.ops s.blocks w.ops_listed Operation BasicBlock
      (λ i j e. ap slot_of e) p

  -- a live node was given out
  pub live-given : (x : IRNode) → is_node_live s x ≡ true → was_given_out s x ≡ true
  live-given (Operation p) e = given_in s.ops w.op_slots p e
  live-given (Region p) e = given_in s.regions w.region_slots p e
  live-given (BasicBlock p) e = given_in s.blocks w.block_slots p e
