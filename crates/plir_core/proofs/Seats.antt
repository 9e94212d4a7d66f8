-- Climbing from a live node is climbing from its seat.
use Rattle.std.proofs.Common.{◌≡◌, ℕ, zero, suc, Bool, true, false, ◌&&◌, Option, Some, None, is_some, IsSome, refl}
use Rattle.std.proofs.Common.{sym, ◌∙◌, ap, subst, eqb, eq-eqb}
use Rattle.std.specs.Prelude.{option_map}
use borrow.Author.Tests.{eqb-true}
use Rattle.std.proofs.lemmas.Option.{same_Some, none-some}
use Rattle.plir_store.specs.Lists.{parent_at}
use Rattle.plir_store.specs.Table.{Table, content_at, version_at, is_live_at}
use Rattle.plir_core.specs.declared.ptr.Ptr.{Ptr}
use Rattle.plir_core.specs.declared.ptr.IRNode.{IRNode}
use Rattle.plir_core.specs.declared.ptr.IRNode.TheVariants.{Operation, Region, BasicBlock}
use Rattle.plir_core.specs.Above.{climb, Reaches}
use Rattle.plir_core.specs.Nodes.{Nodes, op_node, region_node, block_node, is_node_live, node_over, node_parent}
use Rattle.plir_core.specs.Stored.{op, region, block, seat_of, up, IsStored}
use Rattle.plir_core.proofs.Climbs.{climb_none}

and_left : (a b : Bool) → (a && b) ≡ true → a ≡ true
and_left true b e = refl
and_left false b e = e

and_right : (a b : Bool) → (a && b) ≡ true → b ≡ true
and_right true b e = e
and_right false b e = cc

and_both : (a b : Bool) → a ≡ true → b ≡ true → (a && b) ≡ true
and_both a b e f = rw (e, f) refl

module _ {T : Type 0} (t : Table T) where
  -- what is live holds a value under the slot's version, and the other way round
  pub live_some : (i v : ℕ) → is_live_at t i v ≡ true → IsSome (content_at t i)
  live_some i v e = and_left (is_some (content_at t i)) (eqb (version_at t i) v) e

  pub live_version : (i v : ℕ) → is_live_at t i v ≡ true → version_at t i ≡ v
  live_version i v e = eqb-true (version_at t i) v (and_right (is_some (content_at t i)) (eqb (version_at t i) v) e)

  pub some_live : (i : ℕ) → IsSome (content_at t i) → is_live_at t i (version_at t i) ≡ true
  some_live i e = and_both (is_some (content_at t i)) (eqb (version_at t i) (version_at t i)) e
      (eq-eqb (version_at t i) (version_at t i) refl)

abbrev pointer : {X : Type 0} → ℕ → ℕ → Ptr X
pointer i v = record { slot = i; version = v; kind = record {} }

pub ptr_of_parts : {X : Type 0} (p q : Ptr X) → p.slot ≡ q.slot → p.version ≡ q.version → p ≡ q
ptr_of_parts p q e f = ap (λ z. pointer z p.version) e ∙ ap (λ v. pointer q.slot v) f

module _ {O B : Type 0} (s : Nodes O B) where
  -- live nodes in one seat are one
  pub same_seat : (a b : IRNode) → is_node_live s a ≡ true → is_node_live s b ≡ true → seat_of a ≡ seat_of b → a ≡ b
  same_seat (Operation p) (Operation q) l m e =
      let f : p.slot ≡ q.slot = cc in
      ap Operation (ptr_of_parts p q f (sym (live_version s.ops p.slot p.version l) ∙ ap (version_at s.ops) f ∙ live_version
      s.ops q.slot q.version m))
  same_seat (Region p) (Region q) l m e =
      let f : p.slot ≡ q.slot = cc in
      ap Region (ptr_of_parts p q f (sym (live_version s.regions p.slot p.version l) ∙ ap (version_at s.regions) f ∙
      live_version s.regions q.slot q.version m))
  same_seat (BasicBlock p) (BasicBlock q) l m e =
      let f : p.slot ≡ q.slot = cc in
      ap BasicBlock (ptr_of_parts p q f (sym (live_version s.blocks p.slot p.version l) ∙ ap (version_at s.blocks) f ∙
      live_version s.blocks q.slot q.version m))
  same_seat (Operation p) (Region q) l m e = cc
  same_seat (Operation p) (BasicBlock q) l m e = cc
  same_seat (Region p) (Operation q) l m e = cc
  same_seat (Region p) (BasicBlock q) l m e = cc
  same_seat (BasicBlock p) (Operation q) l m e = cc
  same_seat (BasicBlock p) (Region q) l m e = cc

  -- the seat above is the seat of the node above
  op_seat : (o : Option ℕ) → option_map op o ≡ option_map seat_of (option_map (op_node s) o)
  op_seat None = refl
  op_seat (Some i) = refl

  region_seat : (o : Option ℕ) → option_map region o ≡ option_map seat_of (option_map (region_node s) o)
  region_seat None = refl
  region_seat (Some i) = refl

  block_seat : (o : Option ℕ) → option_map block o ≡ option_map seat_of (option_map (block_node s) o)
  block_seat None = refl
  block_seat (Some i) = refl

  pub up_seat : (n : IRNode) → up s (seat_of n) ≡ option_map seat_of (node_over s n)
  up_seat (Operation p) = block_seat (parent_at s.ops_in_block p.slot)
  up_seat (Region p) = op_seat (parent_at s.regions_in_op p.slot)
  up_seat (BasicBlock p) = region_seat (parent_at s.blocks_in_region p.slot)

  pub parent_over : (n : IRNode) → is_node_live s n ≡ true → node_parent s n ≡ node_over s n
  parent_over n e = rw e refl

  module _ (w : IsStored s) where
    -- the node above is live
    block_over : (i : ℕ) (o : Option ℕ) (a : IRNode) → parent_at s.ops_in_block i ≡ o → option_map (block_node s) o ≡
        Some a → is_node_live s a ≡ true
    block_over i None a e f = absurd (none-some a f)
    block_over i (Some b) a e f = subst (λ z. is_node_live s z ≡ true) (same_Some (block_node s b) a f)
        (some_live s.blocks b ((w.ops_listed.linked_live i b e).1))

    op_over : (i : ℕ) (o : Option ℕ) (a : IRNode) → parent_at s.regions_in_op i ≡ o → option_map (op_node s) o ≡ Some a
        → is_node_live s a ≡ true
    op_over i None a e f = absurd (none-some a f)
    op_over i (Some b) a e f = subst (λ z. is_node_live s z ≡ true) (same_Some (op_node s b) a f)
        (some_live s.ops b ((w.regions_listed.linked_live i b e).1))

    region_over : (i : ℕ) (o : Option ℕ) (a : IRNode) → parent_at s.blocks_in_region i ≡ o → option_map (region_node s)
        o ≡ Some a → is_node_live s a ≡ true
    region_over i None a e f = absurd (none-some a f)
    region_over i (Some b) a e f = subst (λ z. is_node_live s z ≡ true) (same_Some (region_node s b) a f)
        (some_live s.regions b ((w.blocks_listed.linked_live i b e).1))

    pub over_live : (n a : IRNode) → node_over s n ≡ Some a → is_node_live s a ≡ true
    over_live (Operation p) a e = block_over p.slot (parent_at s.ops_in_block p.slot) a refl e
    over_live (Region p) a e = op_over p.slot (parent_at s.regions_in_op p.slot) a refl e
    over_live (BasicBlock p) a e = region_over p.slot (parent_at s.blocks_in_region p.slot) a refl e

    climb_from : (k : ℕ) (o : Option IRNode) (a : IRNode) → ((b : IRNode) → o ≡ Some b → climb (up s) k
        (Some (seat_of b)) ≡ Some (seat_of a) → climb (node_parent s) k (Some b) ≡ Some a) → climb (up s) k
        (option_map seat_of o) ≡ Some (seat_of a) → climb (node_parent s) k o ≡ Some a
    climb_from k None a ih e = absurd (none-some (seat_of a) (sym (climb_none (up s) k) ∙ e))
    climb_from k (Some b) a ih e = ih b refl e

    -- whoever is above a live node's seat is the seat of a node above it
    climb_seat : (k : ℕ) (n a : IRNode) → is_node_live s n ≡ true → is_node_live s a ≡ true → climb (up s) k
        (Some (seat_of n)) ≡ Some (seat_of a) → climb (node_parent s) k (Some n) ≡ Some a
    climb_seat zero n a l m e = ap (λ z. Some z) (same_seat n a l m (same_Some (seat_of n) (seat_of a) e))
    climb_seat (suc k) n a l m e =
        rw (parent_over n l) (climb_from k (node_over s n) a
        (λ b f g. climb_seat k b a (over_live n b f) m g) (ap (climb (up s) k) (sym (up_seat n)) ∙ e))

    pub reach_seat : (n a : IRNode) → is_node_live s n ≡ true → is_node_live s a ≡ true → Reaches (up s) (seat_of n)
        (seat_of a) → Reaches (node_parent s) n a
    reach_seat n a l m r = (r.0, climb_seat r.0 n a l m r.1)
