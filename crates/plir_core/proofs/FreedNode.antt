-- A live node without children is freed: every other node is as live as it was and has the parent that it had, its
-- parent's
-- list is without it, all other lists of children are as they were, and the nodes left are a forest.
use Rattle.std.proofs.Common.{◌≡◌, ℕ, ◌+◌, Bool, true, false, cond, List, [], ◌∷◌, ◌++◌, map, Some, None, IsSome, ◌⊎◌}
use Rattle.std.proofs.Common.{inl, inr, refl, sym, ◌∙◌, ap, subst, arith}
use Rattle.std.specs.Prelude.{option_map}
use Rattle.std.proofs.lemmas.Bool.{cases_eq}
use Rattle.plir_store.specs.Lists.{children_at, parent_at, without_child}
use Rattle.plir_store.specs.Table.{content_at, is_live_at, without_slot}
use Rattle.plir_store.specs.TableLaws.{IsTable-without_slot}
use Rattle.plir_core.specs.declared.ptr.IRNode.{IRNode}
use Rattle.plir_core.specs.declared.ptr.IRNode.TheVariants.{Operation, Region, BasicBlock}
use Rattle.plir_store.specs.Members.{Has}
use Rattle.plir_core.specs.Nodes.{Nodes, is_node_live, was_given_out, node_children, node_parent, num_nodes, op_node}
use Rattle.plir_core.specs.Nodes.{block_node, region_node}
use Rattle.plir_core.specs.Stored.{Seat, op, region, block, seat_of, up, IsStored}
use Rattle.plir_core.specs.Erase.{without_node}
use Rattle.plir_core.proofs.Climbs.{IsGrounded-cut}
use Rattle.plir_core.proofs.Facts.{live_parts, slot_of}
use Rattle.plir_core.proofs.Depths.{count_without}
use Rattle.plir_core.proofs.Listing.{IsMoved, IsListing-free_parent, content_without, some_none, content_gone}
use Rattle.plir_core.proofs.Removal.{parent_at-without_other}
use Rattle.plir_core.proofs.Freed.{ptr_without, given_without, most_without, live_same, live_none, parent_same}
use Rattle.plir_core.proofs.Freed.{parent-made, children_below, children_here, children_away, wrong_child, map-nil}
use Rattle.plir_core.proofs.Freed.{IsListing-without, moved_out}
use Rattle.plir_core.specs.Measures.{most_steps}
use Rattle.plir_store.specs.MemberLaws.{Has-mid}

-- what a live node without children has under it
under_nil : (b : Bool) (f : ℕ → IRNode) (ks : List ℕ) → b ≡ true → cond b (map f ks) [] ≡ [] → ks ≡ []
under_nil false f ks e q = cc
under_nil true f ks e q = map-nil f ks q

module _ {O B : Type 0} where
  -- whether a node is live
  pub freed-live : (s : Nodes O B) (n m : IRNode) → is_node_live s n ≡ true → (m ≡ n → ⊥) → IsStored s → is_node_live
      (without_node s n) m ≡ is_node_live s m
  freed-live s (Operation p) (Operation q) e ne w = live_same s.ops_in_block s.ops s.blocks w.ops_listed p e q
      (λ z. ne (ap Operation z))
  freed-live s (Operation p) (Region q) e ne w = refl
  freed-live s (Operation p) (BasicBlock q) e ne w = refl
  freed-live s (Region p) (Operation q) e ne w = refl
  freed-live s (Region p) (Region q) e ne w = live_same s.regions_in_op s.regions s.ops w.regions_listed p e q
      (λ z. ne (ap Region z))
  freed-live s (Region p) (BasicBlock q) e ne w = refl
  freed-live s (BasicBlock p) (Operation q) e ne w = refl
  freed-live s (BasicBlock p) (Region q) e ne w = refl
  freed-live s (BasicBlock p) (BasicBlock q) e ne w = live_same s.blocks_in_region s.blocks s.regions w.blocks_listed p
      e q (λ z. ne (ap BasicBlock z))

  -- it is no longer live
  pub freed-dead : (s : Nodes O B) (n : IRNode) → is_node_live s n ≡ true → IsStored s → is_node_live (without_node s n)
      n ≡ false
  freed-dead s (Operation p) e w = live_none s.ops_in_block s.ops s.blocks w.ops_listed p e
  freed-dead s (Region p) e w = live_none s.regions_in_op s.regions s.ops w.regions_listed p e
  freed-dead s (BasicBlock p) e w = live_none s.blocks_in_region s.blocks s.regions w.blocks_listed p e

  -- what was given out is still given out
  pub freed-given : (s : Nodes O B) (n m : IRNode) → was_given_out (without_node s n) m ≡ was_given_out s m
  freed-given s (Operation p) (Operation q) = given_without s.ops p.slot q
  freed-given s (Operation p) (Region q) = refl
  freed-given s (Operation p) (BasicBlock q) = refl
  freed-given s (Region p) (Operation q) = refl
  freed-given s (Region p) (Region q) = given_without s.regions p.slot q
  freed-given s (Region p) (BasicBlock q) = refl
  freed-given s (BasicBlock p) (Operation q) = refl
  freed-given s (BasicBlock p) (Region q) = refl
  freed-given s (BasicBlock p) (BasicBlock q) = given_without s.blocks p.slot q

  -- parents stay
  pub freed-parent : (s : Nodes O B) (n m : IRNode) → is_node_live s n ≡ true → (m ≡ n → ⊥) → IsStored s → node_parent
      (without_node s n) m ≡ node_parent s m
  freed-parent s (Operation p) (Operation q) e ne w = parent_same s.ops_in_block s.ops s.blocks w.ops_listed p e
      (block_node s) q (λ z. ne (ap Operation z))
  freed-parent s (Operation p) (Region q) e ne w = parent-made (is_live_at s.regions q.slot q.version)
      (op_node (without_node s (Operation p))) (op_node s) (parent_at s.regions_in_op q.slot)
      (λ i. ap Operation (ptr_without s.ops p.slot i))
  freed-parent s (Operation p) (BasicBlock q) e ne w = refl
  freed-parent s (Region p) (Operation q) e ne w = refl
  freed-parent s (Region p) (Region q) e ne w = parent_same s.regions_in_op s.regions s.ops w.regions_listed p e
      (op_node s) q (λ z. ne (ap Region z))
  freed-parent s (Region p) (BasicBlock q) e ne w = parent-made (is_live_at s.blocks q.slot q.version)
      (region_node (without_node s (Region p))) (region_node s) (parent_at s.blocks_in_region q.slot)
      (λ i. ap Region (ptr_without s.regions p.slot i))
  freed-parent s (BasicBlock p) (Operation q) e ne w = parent-made (is_live_at s.ops q.slot q.version)
      (block_node (without_node s (BasicBlock p))) (block_node s) (parent_at s.ops_in_block q.slot)
      (λ i. ap BasicBlock (ptr_without s.blocks p.slot i))
  freed-parent s (BasicBlock p) (Region q) e ne w = refl
  freed-parent s (BasicBlock p) (BasicBlock q) e ne w = parent_same s.blocks_in_region s.blocks s.regions
      w.blocks_listed p e (region_node s) q (λ z. ne (ap BasicBlock z))

  -- the parent's list is without it
  pub freed-children_here : (s : Nodes O B) (n m : IRNode) (xs ys : List IRNode) → is_node_live s n ≡ true → IsStored s
      → node_children s m ≡ xs ++ n ∷ ys → node_children (without_node s n) m ≡ xs ++ ys
  freed-children_here s (Operation p) (Operation q) xs ys e w k = absurd (wrong_child (is_node_live s (Operation q))
      (region_node s) (children_at s.regions_in_op q.slot) (Operation p)
      (λ i z. cc) (subst (λ z. Has z (Operation p)) (sym k) (Has-mid xs ys (Operation p))))
  freed-children_here s (Operation p) (Region q) xs ys e w k = absurd (wrong_child (is_node_live s (Region q))
      (block_node s) (children_at s.blocks_in_region q.slot) (Operation p)
      (λ i z. cc) (subst (λ z. Has z (Operation p)) (sym k) (Has-mid xs ys (Operation p))))
  freed-children_here s (Operation p) (BasicBlock q) xs ys e w k = children_here s.ops_in_block s.ops s.blocks
      w.ops_listed p e Operation (λ i j z. ap slot_of z) (is_live_at s.blocks q.slot q.version) q.slot xs ys k
  freed-children_here s (Region p) (Operation q) xs ys e w k = children_here s.regions_in_op s.regions s.ops
      w.regions_listed p e Region (λ i j z. ap slot_of z) (is_live_at s.ops q.slot q.version) q.slot xs ys k
  freed-children_here s (Region p) (Region q) xs ys e w k = absurd (wrong_child (is_node_live s (Region q))
      (block_node s) (children_at s.blocks_in_region q.slot) (Region p)
      (λ i z. cc) (subst (λ z. Has z (Region p)) (sym k) (Has-mid xs ys (Region p))))
  freed-children_here s (Region p) (BasicBlock q) xs ys e w k = absurd (wrong_child (is_node_live s (BasicBlock q))
      (op_node s) (children_at s.ops_in_block q.slot) (Region p)
      (λ i z. cc) (subst (λ z. Has z (Region p)) (sym k) (Has-mid xs ys (Region p))))
  freed-children_here s (BasicBlock p) (Operation q) xs ys e w k = absurd (wrong_child (is_node_live s (Operation q))
      (region_node s) (children_at s.regions_in_op q.slot) (BasicBlock p)
      (λ i z. cc) (subst (λ z. Has z (BasicBlock p)) (sym k) (Has-mid xs ys (BasicBlock p))))
  freed-children_here s (BasicBlock p) (Region q) xs ys e w k = children_here s.blocks_in_region s.blocks s.regions
      w.blocks_listed p e BasicBlock (λ i j z. ap slot_of z) (is_live_at s.regions q.slot q.version) q.slot xs ys k
  freed-children_here s (BasicBlock p) (BasicBlock q) xs ys e w k = absurd (wrong_child (is_node_live s (BasicBlock q))
      (op_node s) (children_at s.ops_in_block q.slot) (BasicBlock p)
      (λ i z. cc) (subst (λ z. Has z (BasicBlock p)) (sym k) (Has-mid xs ys (BasicBlock p))))

  -- every other list of children stays
  pub freed-children : (s : Nodes O B) (n m : IRNode) → is_node_live s n ≡ true → node_children s n ≡ [] → IsStored s →
      (node_parent s n ≡ Some m → ⊥) → node_children (without_node s n) m ≡ node_children s m
  freed-children s (Operation p) (Operation q) e none w away = children_below s.ops_in_block s.ops s.blocks w.ops_listed
      p e (λ i. map (region_node s) (children_at s.regions_in_op i)) (ap (map (region_node s))
      (under_nil (is_node_live s (Operation p)) (region_node s) (children_at s.regions_in_op p.slot) e none)) q
  freed-children s (Operation p) (Region q) e none w away = refl
  freed-children s (Operation p) (BasicBlock q) e none w away = children_away s.ops_in_block s.ops s.blocks w.ops_listed
      p e Operation (λ i j z. ap slot_of z) BasicBlock q away
  freed-children s (Region p) (Operation q) e none w away = children_away s.regions_in_op s.regions s.ops
      w.regions_listed p e Region (λ i j z. ap slot_of z) Operation q away
  freed-children s (Region p) (Region q) e none w away = children_below s.regions_in_op s.regions s.ops w.regions_listed
      p e (λ i. map (block_node s) (children_at s.blocks_in_region i)) (ap (map (block_node s))
      (under_nil (is_node_live s (Region p)) (block_node s) (children_at s.blocks_in_region p.slot) e none)) q
  freed-children s (Region p) (BasicBlock q) e none w away = refl
  freed-children s (BasicBlock p) (Operation q) e none w away = refl
  freed-children s (BasicBlock p) (Region q) e none w away = children_away s.blocks_in_region s.blocks s.regions
      w.blocks_listed p e BasicBlock (λ i j z. ap slot_of z) Region q away
  freed-children s (BasicBlock p) (BasicBlock q) e none w away = children_below s.blocks_in_region s.blocks s.regions
      w.blocks_listed p e (λ i. map (op_node s) (children_at s.ops_in_block i)) (ap (map (op_node s))
      (under_nil (is_node_live s (BasicBlock p)) (op_node s) (children_at s.ops_in_block p.slot) e none)) q

  -- one node less
  pub freed-count : (s : Nodes O B) (n : IRNode) → is_node_live s n ≡ true → num_nodes (without_node s n) + 1 ≡
      num_nodes s
  freed-count s (Operation p) e = let c = count_without s.ops p.slot ((live_parts s.ops p.slot p.version e).0) in omega
      arith
  freed-count s (Region p) e = let c = count_without s.regions p.slot ((live_parts s.regions p.slot p.version e).0) in
      omega arith
  freed-count s (BasicBlock p) e = let c = count_without s.blocks p.slot ((live_parts s.blocks p.slot p.version e).0) in
      omega arith

  -- no slot goes away
  pub freed-most : (s : Nodes O B) (n : IRNode) → most_steps (without_node s n) ≡ most_steps s
  freed-most s (Operation p) = rw (most_without s.ops p.slot) refl
  freed-most s (Region p) = rw (most_without s.regions p.slot) refl
  freed-most s (BasicBlock p) = rw (most_without s.blocks p.slot) refl

  -- what is right above another seat
  pub freed-up : (s : Nodes O B) (w : IsStored s) (n : IRNode) (x : Seat) → is_node_live s n ≡ true →
      (x ≡ seat_of n → ⊥) → up (without_node s n) x ≡ up s x
  freed-up s w (Operation p) (op i) live ne = ap (option_map block) (parent_at-without_other s.ops_in_block
      w.ops_listed.agreed p.slot i (λ e. ne (ap op e)))
  freed-up s w (Operation p) (region i) live ne = refl
  freed-up s w (Operation p) (block i) live ne = refl
  freed-up s w (Region p) (op i) live ne = refl
  freed-up s w (Region p) (region i) live ne = ap (option_map op) (parent_at-without_other s.regions_in_op
      w.regions_listed.agreed p.slot i (λ e. ne (ap region e)))
  freed-up s w (Region p) (block i) live ne = refl
  freed-up s w (BasicBlock p) (op i) live ne = refl
  freed-up s w (BasicBlock p) (region i) live ne = refl
  freed-up s w (BasicBlock p) (block i) live ne = ap (option_map region) (parent_at-without_other s.blocks_in_region
      w.blocks_listed.agreed p.slot i (λ e. ne (ap block e)))

  pub freed-limit : (s : Nodes O B) (n : IRNode) → (without_node s n).limit ≡ s.limit
  freed-limit s (Operation p) = refl
  freed-limit s (Region p) = refl
  freed-limit s (BasicBlock p) = refl

  -- the nodes left are a forest
  pub freed-stored : (s : Nodes O B) (n : IRNode) → is_node_live s n ≡ true → node_children s n ≡ [] → IsStored s →
      IsStored (without_node s n)
  freed-stored s (Operation p) e none w = record {
    regions_listed = IsListing-free_parent s.regions_in_op s.regions s.ops w.regions_listed p.slot
        (under_nil (is_node_live s (Operation p)) (region_node s) (children_at s.regions_in_op p.slot) e none);
    blocks_listed = w.blocks_listed;
    ops_listed = IsListing-without s.ops_in_block s.ops s.blocks w.ops_listed p e;
    regions_owned = w.regions_owned;
    grounded = IsGrounded-cut (up s) (up (without_node s (Operation p))) cut w.grounded;
    op_slots = IsTable-without_slot s.ops p.slot ((live_parts s.ops p.slot p.version e).0) w.op_slots;
    region_slots = w.region_slots;
    block_slots = w.block_slots;
    within = let c = freed-count s (Operation p) e in let v = w.within in omega arith;
    limit_fits = w.limit_fits;
  }
    where
      moved : IsMoved s.ops_in_block (without_child s.ops_in_block p.slot) p.slot None
      moved = moved_out s.ops_in_block s.ops s.blocks w.ops_listed p e

      cut : (x : Seat) → (up (without_node s (Operation p)) x ≡ up s x) ⊎ (up (without_node s (Operation p)) x ≡ None)
      cut = elim [
        | op i ↦ elim (cases_eq i p.slot) [
          | inl q ↦ inr (ap (λ z. option_map block (parent_at (without_child s.ops_in_block p.slot) z)) q ∙ ap
              (option_map block) moved.here)
          | inr q ↦ inl (ap (option_map block) (moved.other i q))
        ]
        | region i ↦ inl refl
        | block i ↦ inl refl
      ]
  freed-stored s (Region p) e none w = record {
    regions_listed = IsListing-without s.regions_in_op s.regions s.ops w.regions_listed p e;
    blocks_listed = IsListing-free_parent s.blocks_in_region s.blocks s.regions w.blocks_listed p.slot
        (under_nil (is_node_live s (Region p)) (block_node s) (children_at s.blocks_in_region p.slot) e none);
    ops_listed = w.ops_listed;
    regions_owned = λ r some. elim (cases_eq r p.slot) [
      | inl q ↦ absurd (some_none (content_at (without_slot s.regions p.slot) r) some
          (ap (content_at (without_slot s.regions p.slot)) q ∙ content_gone s.regions p.slot
          ((live_parts s.regions p.slot p.version e).0)))
      | inr q ↦ rw (moved.other r q) (w.regions_owned r (subst
          (λ z. IsSome z) (content_without s.regions p.slot r q) some))
    ];
    grounded = IsGrounded-cut (up s) (up (without_node s (Region p))) cut w.grounded;
    op_slots = w.op_slots;
    region_slots = IsTable-without_slot s.regions p.slot ((live_parts s.regions p.slot p.version e).0) w.region_slots;
    block_slots = w.block_slots;
    within = let c = freed-count s (Region p) e in let v = w.within in omega arith;
    limit_fits = w.limit_fits;
  }
    where
      moved : IsMoved s.regions_in_op (without_child s.regions_in_op p.slot) p.slot None
      moved = moved_out s.regions_in_op s.regions s.ops w.regions_listed p e

      cut : (x : Seat) → (up (without_node s (Region p)) x ≡ up s x) ⊎ (up (without_node s (Region p)) x ≡ None)
      cut = elim [
        | op i ↦ inl refl
        | region i ↦ elim (cases_eq i p.slot) [
          | inl q ↦ inr (ap (λ z. option_map op (parent_at (without_child s.regions_in_op p.slot) z)) q ∙ ap
              (option_map op) moved.here)
          | inr q ↦ inl (ap (option_map op) (moved.other i q))
        ]
        | block i ↦ inl refl
      ]
  freed-stored s (BasicBlock p) e none w = record {
    regions_listed = w.regions_listed;
    blocks_listed = IsListing-without s.blocks_in_region s.blocks s.regions w.blocks_listed p e;
    ops_listed = IsListing-free_parent s.ops_in_block s.ops s.blocks w.ops_listed p.slot
        (under_nil (is_node_live s (BasicBlock p)) (op_node s) (children_at s.ops_in_block p.slot) e none);
    regions_owned = w.regions_owned;
    grounded = IsGrounded-cut (up s) (up (without_node s (BasicBlock p))) cut w.grounded;
    op_slots = w.op_slots;
    region_slots = w.region_slots;
    block_slots = IsTable-without_slot s.blocks p.slot ((live_parts s.blocks p.slot p.version e).0) w.block_slots;
    within = let c = freed-count s (BasicBlock p) e in let v = w.within in omega arith;
    limit_fits = w.limit_fits;
  }
    where
      moved : IsMoved s.blocks_in_region (without_child s.blocks_in_region p.slot) p.slot None
      moved = moved_out s.blocks_in_region s.blocks s.regions w.blocks_listed p e

      cut : (x : Seat) → (up (without_node s (BasicBlock p)) x ≡ up s x) ⊎ (up (without_node s (BasicBlock p)) x ≡ None)
      cut = elim [
        | op i ↦ inl refl
        | region i ↦ inl refl
        | block i ↦ elim (cases_eq i p.slot) [
          | inl q ↦ inr (ap (λ z. option_map region (parent_at (without_child s.blocks_in_region p.slot) z)) q ∙ ap
              (option_map region) moved.here)
          | inr q ↦ inl (ap (option_map region) (moved.other i q))
        ]
      ]
