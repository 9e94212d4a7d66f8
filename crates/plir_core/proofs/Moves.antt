-- Changes of links as the functions have them: s is made of the fields, and t is the value.
use Rattle.std.proofs.Common.{◌≡◌, ℕ, suc, ◌<◌, length, Option, Some, None, IsSome, refl, sym, ◌∙◌, ap, subst, arith}
use Rattle.std.specs.Prelude.{option_map, true, cond, map, [], slice_get}
use Rattle.std.proofs.lemmas.Option.{slice_get-map}
use Rattle.plir_store.specs.Lists.{Lists, IsAgreed, children_at, parent_at, with_first, with_last, with_before}
use Rattle.plir_store.specs.Lists.{with_after, without_child}
use Rattle.plir_store.specs.Table.{Table, content_at, version_at, next_slot, with_content}
use Rattle.plir_core.specs.declared.ptr.Ptr.{Ptr}
use Rattle.plir_core.specs.declared.ptr.Operation.{Operation as OperationKind}
use Rattle.plir_core.specs.declared.ptr.Region.{Region as RegionKind}
use Rattle.plir_core.specs.declared.ptr.BasicBlock.{BasicBlock as BasicBlockKind}
use Rattle.plir_core.specs.declared.ptr.IRNode.{IRNode}
use Rattle.plir_core.specs.declared.ptr.IRNode.TheVariants.{Operation, Region, BasicBlock}
use Rattle.plir_core.specs.declared.arena.moving.Point.{Point}
use Rattle.plir_core.specs.declared.arena.moving.Point.TheVariants.{AtFront, AtBack, Before, After}
use Rattle.plir_core.specs.Points.{CanBePut, IsPointIn, put_at}
use Rattle.plir_core.specs.Above.{climb, Reaches}
use Rattle.plir_core.specs.Nodes.{Nodes, num_nodes, ptr_at, node_children, block_node, region_node, is_node_live}
use Rattle.plir_core.specs.Nodes.{node_parent}
use Rattle.plir_core.specs.Stored.{region, block, seat_of, up, IsStored}
use Rattle.plir_core.specs.Edits.{IsFilled, room_child, room_list}
use Rattle.plir_core.proofs.Listing.{IsMoved, IsMoved-first, IsMoved-last, IsMoved-before, IsMoved-after}
use Rattle.plir_core.proofs.Listing.{IsMoved-out, within_content}
use Rattle.plir_core.proofs.Changes.{IsStored-new_region, IsStored-link_op, IsStored-unlink_op, IsStored-link_block}
use Rattle.plir_core.proofs.Changes.{IsStored-unlink_block, IsStored-held_op, IsStored-held_block}
use Rattle.plir_core.proofs.Seats.{ptr_of_parts, live_some, parent_over, reach_seat}
use Rattle.plir_store.specs.MemberLaws.{Has-at}

module _ {O B : Type 0} {s t : Nodes O B} (view : s ≡ t) (w : IsStored s) where
  live_of : (n : IRNode) → is_node_live t n ≡ true → is_node_live s n ≡ true
  live_of n live = subst (λ z. is_node_live z n ≡ true) (sym view) live

  op_some : (o : Ptr OperationKind) → is_node_live t (Operation o) ≡ true → IsSome (content_at s.ops o.slot)
  op_some o live = live_some s.ops o.slot o.version (live_of (Operation o) live)

  region_some : (o : Ptr RegionKind) → is_node_live t (Region o) ≡ true → IsSome (content_at s.regions o.slot)
  region_some o live = live_some s.regions o.slot o.version (live_of (Region o) live)

  block_some : (o : Ptr BasicBlockKind) → is_node_live t (BasicBlock o) ≡ true → IsSome (content_at s.blocks o.slot)
  block_some o live = live_some s.blocks o.slot o.version (live_of (BasicBlock o) live)

  pub op_in : (o : Ptr OperationKind) → is_node_live t (Operation o) ≡ true → o.slot < length s.ops_in_block.parents
  op_in o live = let h = within_content s.ops o.slot (op_some o live) in omega (arith, w.ops_listed.child_places)

  pub block_in : (o : Ptr BasicBlockKind) → is_node_live t (BasicBlock o) ≡ true → o.slot < length
      s.blocks_in_region.parents
  block_in o live = let h = within_content s.blocks o.slot (block_some o live) in omega
      (arith, w.blocks_listed.child_places)

  block_on : (b : Ptr BasicBlockKind) → is_node_live t (BasicBlock b) ≡ true → b.slot < length s.ops_in_block.children
  block_on b live = let h = within_content s.blocks b.slot (block_some b live) in omega
      (arith, w.ops_listed.parent_places)

  region_on : (r : Ptr RegionKind) → is_node_live t (Region r) ≡ true → r.slot < length s.blocks_in_region.children
  region_on r live = let h = within_content s.regions r.slot (region_some r live) in omega
      (arith, w.blocks_listed.parent_places)

  -- a node that is not above another is not above it by its seat
  away_from : (n a : IRNode) → is_node_live t n ≡ true → is_node_live t a ≡ true → (Reaches (node_parent t) n a → ⊥) →
      Reaches (up s) (seat_of n) (seat_of a) → ⊥
  away_from n a l m away r = subst (λ z. Reaches (node_parent z) n a → ⊥) (sym view) away
      (reach_seat s w n a (live_of n l) (live_of a m) r)

  pub region_made : (x : Table RegionKind) (l m n : Lists) (o : Ptr OperationKind) (i : ℕ) → is_node_live t
      (Operation o) ≡ true → i ≡ next_slot s.regions → IsFilled s.regions x (record {}) → l ≡ room_list
      s.blocks_in_region s.regions.free → m ≡ room_child s.regions_in_op s.regions.free → n ≡ with_last m o.slot i →
      IsAgreed l → IsAgreed m → IsAgreed n → num_nodes s < s.limit → IsStored (record s
      { regions = x; blocks_in_region = l; regions_in_op = n })
  region_made x l m n o i live e f le me ne la ma na room =
      IsStored-new_region s w x l m n o.slot f le me (ne ∙ ap (with_last m o.slot) e) la ma na room (op_some o live)

  -- a node is put under a parent: f says where among its children
  op_put : (f : Lists → ℕ → ℕ → Lists) → ((l : Lists) (c p : ℕ) → c < length l.parents → IsMoved l (f l p c) c
      (Some p)) → (o : Ptr OperationKind) (b : Ptr BasicBlockKind) (l : Lists) → is_node_live t (Operation o) ≡ true →
      is_node_live t (BasicBlock b) ≡ true → (Reaches (node_parent t) (BasicBlock b) (Operation o) → ⊥) → l ≡ f
      s.ops_in_block b.slot o.slot → IsAgreed l → IsStored (record s { ops_in_block = l })
  op_put f moved o b l live_o live_b away e a =
      IsStored-link_op s w l o.slot b.slot (subst (λ z. IsMoved s.ops_in_block z o.slot (Some b.slot)) (sym e)
      (moved s.ops_in_block o.slot b.slot (op_in o live_o))) a (op_some o live_o) (block_some b live_b)
      (away_from (BasicBlock b) (Operation o) live_b live_o away)

  block_put : (f : Lists → ℕ → ℕ → Lists) → ((l : Lists) (c p : ℕ) → c < length l.parents → IsMoved l (f l p c) c
      (Some p)) → (b : Ptr BasicBlockKind) (r : Ptr RegionKind) (l : Lists) → is_node_live t (BasicBlock b) ≡ true →
      is_node_live t (Region r) ≡ true → (Reaches (node_parent t) (Region r) (BasicBlock b) → ⊥) → l ≡ f
      s.blocks_in_region r.slot b.slot → IsAgreed l → IsStored (record s { blocks_in_region = l })
  block_put f moved b r l live_b live_r away e a =
      IsStored-link_block s w l b.slot r.slot (subst (λ z. IsMoved s.blocks_in_region z b.slot (Some r.slot)) (sym e)
      (moved s.blocks_in_region b.slot r.slot (block_in b live_b))) a (block_some b live_b) (region_some r live_r)
      (away_from (Region r) (BasicBlock b) live_r live_b away)

  -- the parent's slot of a node that has a parent
  mapped : {A C : Type 0} (f : A → C) (o : Option A) → IsSome (option_map f o) → (p : A) × (o ≡ Some p)
  mapped f None e = absurd (let x : ⊥ = cc in x)
  mapped f (Some p) e = (p, refl)

  not_mapped : {A C : Type 0} (f : A → C) (o : Option A) → option_map f o ≡ None → o ≡ None
  not_mapped f None e = refl
  not_mapped f (Some p) e = absurd (let x : ⊥ = cc in x)

  linked_op : (m : Ptr OperationKind) → is_node_live t (Operation m) ≡ true → IsSome (node_parent t (Operation m)) →
      (p : ℕ) × (parent_at s.ops_in_block m.slot ≡ Some p)
  linked_op m live linked =
      mapped (block_node s) (parent_at s.ops_in_block m.slot) (subst IsSome (parent_over s (Operation m)
      (live_of (Operation m) live)) (subst (λ z. IsSome (node_parent z (Operation m))) (sym view) linked))

  linked_block : (m : Ptr BasicBlockKind) → is_node_live t (BasicBlock m) ≡ true → IsSome (node_parent t (BasicBlock m))
      → (p : ℕ) × (parent_at s.blocks_in_region m.slot ≡ Some p)
  linked_block m live linked =
      mapped (region_node s) (parent_at s.blocks_in_region m.slot) (subst IsSome
      (parent_over s (BasicBlock m) (live_of (BasicBlock m) live))
      (subst (λ z. IsSome (node_parent z (BasicBlock m))) (sym view) linked))

  -- a node is put beside another one: f says on which side
  op_put_beside : (f : Lists → ℕ → ℕ → Lists) → ((l : Lists) (c m p : ℕ) → c < length l.parents → parent_at l m ≡
      Some p → IsMoved l (f l c m) c (Some p)) → (o m : Ptr OperationKind) (l : Lists) → is_node_live t (Operation o) ≡
      true → is_node_live t (Operation m) ≡ true → IsSome (node_parent t (Operation m)) →
      (Reaches (node_parent t) (Operation m) (Operation o) → ⊥) → l ≡ f s.ops_in_block o.slot m.slot → IsAgreed l →
      IsStored (record s { ops_in_block = l })
  op_put_beside f moved o m l live_o live_m linked away e a =
      let p = linked_op m live_m linked in
      IsStored-link_op s w l o.slot p.0 (subst (λ z. IsMoved s.ops_in_block z o.slot (Some p.0)) (sym e)
      (moved s.ops_in_block o.slot m.slot p.0 (op_in o live_o) p.1)) a (op_some o live_o)
      ((w.ops_listed.linked_live m.slot p.0 p.1).1)
      (λ r. away_from (Operation m) (Operation o) live_m live_o away (
        suc r.0,
        ap
            (λ z. climb (up s) r.0 (option_map block z)) p.1 ∙ r.1,
      ))

  block_put_beside : (f : Lists → ℕ → ℕ → Lists) → ((l : Lists) (c m p : ℕ) → c < length l.parents → parent_at l m ≡
      Some p → IsMoved l (f l c m) c (Some p)) → (b m : Ptr BasicBlockKind) (l : Lists) → is_node_live t (BasicBlock b)
      ≡ true → is_node_live t (BasicBlock m) ≡ true → IsSome (node_parent t (BasicBlock m)) →
      (Reaches (node_parent t) (BasicBlock m) (BasicBlock b) → ⊥) → l ≡ f s.blocks_in_region b.slot m.slot → IsAgreed l
      → IsStored (record s { blocks_in_region = l })
  block_put_beside f moved b m l live_b live_m linked away e a =
      let p = linked_block m live_m linked in
      IsStored-link_block s w l b.slot p.0 (subst (λ z. IsMoved s.blocks_in_region z b.slot (Some p.0)) (sym e)
      (moved s.blocks_in_region b.slot m.slot p.0 (block_in b live_b) p.1)) a (block_some b live_b)
      ((w.blocks_listed.linked_live m.slot p.0 p.1).1)
      (λ r. away_from (BasicBlock m) (BasicBlock b) live_m live_b away (
        suc r.0,
        ap
            (λ z. climb (up s) r.0 (option_map region z)) p.1 ∙ r.1,
      ))

  -- what a point names has a place in the lists
  pub op_point_in : (o : Ptr OperationKind) (at : Point BasicBlockKind OperationKind) → CanBePut t BasicBlock Operation o
      at → IsPointIn s.ops_in_block at
  op_point_in o (AtFront b) c = block_on b c.named_live
  op_point_in o (AtBack b) c = block_on b c.named_live
  op_point_in o (Before m) c = op_in m c.named_live
  op_point_in o (After m) c = op_in m c.named_live

  pub block_point_in : (b : Ptr BasicBlockKind) (at : Point RegionKind BasicBlockKind) → CanBePut t Region BasicBlock b
      at → IsPointIn s.blocks_in_region at
  block_point_in b (AtFront r) c = region_on r c.named_live
  block_point_in b (AtBack r) c = region_on r c.named_live
  block_point_in b (Before m) c = block_in m c.named_live
  block_point_in b (After m) c = block_in m c.named_live

  -- what is put is in no list
  pub op_loose : (o : Ptr OperationKind) (at : Point BasicBlockKind OperationKind) → CanBePut t BasicBlock Operation o at
      → parent_at s.ops_in_block o.slot ≡ None
  op_loose o at c = not_mapped (block_node s) (parent_at s.ops_in_block o.slot)
      (sym (parent_over s (Operation o) (live_of (Operation o) c.live)) ∙ ap (λ z. node_parent z (Operation o)) view ∙
      c.unlinked)

  pub block_loose : (b : Ptr BasicBlockKind) (at : Point RegionKind BasicBlockKind) → CanBePut t Region BasicBlock b at →
      parent_at s.blocks_in_region b.slot ≡ None
  block_loose b at c = not_mapped (region_node s) (parent_at s.blocks_in_region b.slot)
      (sym (parent_over s (BasicBlock b) (live_of (BasicBlock b) c.live)) ∙ ap (λ z. node_parent z (BasicBlock b)) view ∙
      c.unlinked)

  -- a node is put at a point
  pub op_put_at : (o : Ptr OperationKind) (at : Point BasicBlockKind OperationKind) (l : Lists) → CanBePut t BasicBlock
      Operation o at → l ≡ put_at s.ops_in_block o.slot at → IsAgreed l → IsStored (record s { ops_in_block = l })
  op_put_at o (AtFront b) l c = op_put with_first IsMoved-first o b l c.live c.named_live c.not_above
  op_put_at o (AtBack b) l c = op_put with_last IsMoved-last o b l c.live c.named_live c.not_above
  op_put_at o (Before m) l c = op_put_beside with_before IsMoved-before o m l c.live c.named_live c.linked c.not_above
  op_put_at o (After m) l c = op_put_beside with_after IsMoved-after o m l c.live c.named_live c.linked c.not_above

  pub block_put_at : (b : Ptr BasicBlockKind) (at : Point RegionKind BasicBlockKind) (l : Lists) → CanBePut t Region
      BasicBlock b at → l ≡ put_at s.blocks_in_region b.slot at → IsAgreed l → IsStored
      (record s { blocks_in_region = l })
  block_put_at b (AtFront r) l c = block_put with_first IsMoved-first b r l c.live c.named_live c.not_above
  block_put_at b (AtBack r) l c = block_put with_last IsMoved-last b r l c.live c.named_live c.not_above
  block_put_at b (Before m) l c = block_put_beside with_before IsMoved-before b m l c.live c.named_live c.linked
      c.not_above
  block_put_at b (After m) l c = block_put_beside with_after IsMoved-after b m l c.live c.named_live c.linked c.not_above

  pub op_out : (o : Ptr OperationKind) (l : Lists) → is_node_live t (Operation o) ≡ true → l ≡ without_child
      s.ops_in_block o.slot → IsAgreed l → IsStored (record s { ops_in_block = l })
  op_out o l live e a =
      IsStored-unlink_op s w l o.slot (subst (λ z. IsMoved s.ops_in_block z o.slot None) (sym e)
      (IsMoved-out s.ops_in_block o.slot (op_in o live))) a

  pub block_out : (b : Ptr BasicBlockKind) (l : Lists) → is_node_live t (BasicBlock b) ≡ true → l ≡ without_child
      s.blocks_in_region b.slot → IsAgreed l → IsStored (record s { blocks_in_region = l })
  block_out b l live e a =
      IsStored-unlink_block s w l b.slot (subst (λ z. IsMoved s.blocks_in_region z b.slot None) (sym e)
      (IsMoved-out s.blocks_in_region b.slot (block_in b live))) a

  pub op_held : (o : Ptr OperationKind) (v : O) → is_node_live t (Operation o) ≡ true → IsStored
      (record s { ops = with_content s.ops o.slot v })
  op_held o v live = IsStored-held_op s w o.slot v (op_some o live)

  pub block_held : (b : Ptr BasicBlockKind) (v : B) → is_node_live t (BasicBlock b) ≡ true → IsStored
      (record s { blocks = with_content s.blocks b.slot v })
  block_held b v live = IsStored-held_block s w b.slot v (block_some b live)

  -- the region at a place of an operation's list
  pub region_within : (o : Ptr OperationKind) (i c : ℕ) → slice_get (children_at s.regions_in_op o.slot) i ≡ Some c → c
      < length s.regions.slots
  region_within o i c e = within_content s.regions c ((w.regions_listed.linked_live c o.slot
      (w.regions_listed.agreed.owned o.slot c (Has-at (children_at s.regions_in_op o.slot) i c e))).0)

  pub region_at : (o : Ptr OperationKind) (i c : ℕ) (p : Ptr RegionKind) → is_node_live t (Operation o) ≡ true →
      slice_get (children_at s.regions_in_op o.slot) i ≡ Some c → p.slot ≡ c → p.version ≡ version_at s.regions c →
      slice_get (node_children t (Operation o)) i ≡ Some (Region p)
  region_at o i c p live e f g =
      subst (λ z. slice_get (node_children z (Operation o)) i ≡ Some (Region p)) view
      (ap (λ b. slice_get (cond b (map (region_node s) (children_at s.regions_in_op o.slot)) []) i)
      (live_of (Operation o) live)
      ∙ slice_get-map (region_node s) (children_at s.regions_in_op o.slot) i
      ∙ ap (option_map (region_node s)) e
      ∙ ap (λ z. Some (Region z)) (ptr_of_parts (ptr_at s.regions c) p (sym f) (sym g)))
