-- Laws of room and of nodes that come, proved beside their words so that the crates above can cite them. No contract
-- cites this module.
use Rattle.std.proofs.Common.{◌≡◌, ℕ, ◌+◌, ◌-◌, ◌<◌, ◌≤◌, ◌^◌, List, [], ◌∷◌, length, Option, Some, None}
use Rattle.std.proofs.Common.{IsSome, inl, inr, refl, sym, ap, subst, ◌∙◌, arith, length-set}
use Rattle.std.proofs.lemmas.List.{length-append}
use Rattle.plir_store.specs.Members.{Has}
use Rattle.plir_store.specs.Table.{Table, IsTable, IsFreeSlot, content_at, num_full, slot_after, next_slot}
use Rattle.plir_store.specs.Table.{with_new, with_new_in, version_at}
use Rattle.plir_store.specs.TableLaws.{num_full-with_new, num_full-with_content}
use Rattle.plir_core.specs.declared.ptr.Ptr.{Ptr}
use Rattle.plir_core.specs.declared.ptr.Operation.{Operation as OperationKind}
use Rattle.plir_core.specs.declared.ptr.BasicBlock.{BasicBlock as BlockKind}
use Rattle.plir_core.specs.declared.ptr.IRNode.{IRNode}
use Rattle.plir_core.specs.Changes.{with_op, with_block, with_region, with_op_edit, op_edited, with_block_edit}
use Rattle.plir_core.specs.Changes.{block_edited}
use Rattle.plir_core.specs.Contents.{OpView, BlockView}
use Rattle.plir_core.specs.ContextView.{ContextView, op_at, block_at}
use Rattle.plir_core.specs.Nodes.{Nodes}
use Rattle.plir_core.specs.Placed.{MovesOnly}
use Rattle.plir_core.specs.Room.{IsFullForOp, IsFullForBlock, IsFullForRegion, NodeCount, together, no_node}
use Rattle.plir_core.specs.Room.{one_op, one_region, one_block, RunsOut, AreGiven, IsFullFor, HaveCome}
use Rattle.plir_core.specs.Stored.{IsStored}

-- ---- counts

-- no more of any kind
pub record IsAtMost (c d : NodeCount) : Type 0 where
  pub ops : c.ops ≤ d.ops
  pub regions : c.regions ≤ d.regions
  pub blocks : c.blocks ≤ d.blocks

pub part_at_most : (c d : NodeCount) → IsAtMost c (together c d)
part_at_most c d = record { ops = omega arith; regions = omega arith; blocks = omega arith }

pub together_none : (c : NodeCount) → together c no_node ≡ c
together_none c =
    let x : c.ops + 0 ≡ c.ops = omega arith in
    let y : c.regions + 0 ≡ c.regions = omega arith in
    let z : c.blocks + 0 ≡ c.blocks = omega arith in
    λ i. record { ops = x i; regions = y i; blocks = z i }

pub none_together : (c : NodeCount) → together no_node c ≡ c
none_together c =
    let x : 0 + c.ops ≡ c.ops = omega arith in
    let y : 0 + c.regions ≡ c.regions = omega arith in
    let z : 0 + c.blocks ≡ c.blocks = omega arith in
    λ i. record { ops = x i; regions = y i; blocks = z i }

pub together_assoc : (b c d : NodeCount) → together (together b c) d ≡ together b (together c d)
together_assoc b c d =
    let x : (b.ops + c.ops) + d.ops ≡ b.ops + (c.ops + d.ops) = omega arith in
    let y : (b.regions + c.regions) + d.regions ≡ b.regions + (c.regions + d.regions) = omega arith in
    let z : (b.blocks + c.blocks) + d.blocks ≡ b.blocks + (c.blocks + d.blocks) = omega arith in
    λ i. record { ops = x i; regions = y i; blocks = z i }

-- ---- one kind

module _ {C : Type 0} (t : Table C) where
  pub new_given : (v : C) → AreGiven t (with_new t v) 1
  new_given v = at t.free
    where
      at : (fs : List ℕ) → length (with_new_in t v fs).slots + length fs ≡
          length t.slots + length (with_new_in t v fs).free + 1
      at [] = omega (arith, length-append t.slots (record { version = 1; content = Some v } ∷ []))
      at (f ∷ fs) = omega (arith, length-set t.slots f (record { version = version_at t f + 1; content = Some v }))

  -- the numbers have run out where the next one is the last
  pub runs_out : IsTable t → 2 ^ 32 - 1 ≤ next_slot t → RunsOut t 1
  runs_out w le = at t.free w.free_slots le
    where
      at : (fs : List ℕ) → ((i : ℕ) → Has fs i → IsFreeSlot t i) → 2 ^ 32 - 1 ≤ slot_after (length t.slots) fs →
          2 ^ 32 - 1 + length fs < length t.slots + 1
      at [] h k = omega (arith, k)
      at (f ∷ fs) h k = let x = (h f (inl refl)).within in absurd (omega (arith, k, x, w.num_slots))

-- ---- all kinds

module _ {O B : Type 0} where
  pub full_more : (s : Nodes O B) (c d : NodeCount) → IsAtMost c d → IsFullFor s c → IsFullFor s d
  full_more s c d le (inl h) = inl (omega (arith, h, le.ops, le.regions, le.blocks))
  full_more s c d le (inr (inl h)) = inr (inl (omega (arith, h, le.ops)))
  full_more s c d le (inr (inr (inl h))) = inr (inr (inl (omega (arith, h, le.regions))))
  full_more s c d le (inr (inr (inr h))) = inr (inr (inr (omega (arith, h, le.blocks))))

  -- what has no room once some nodes have come has none with these before
  pub full_before : (s t : Nodes O B) (c d : NodeCount) → HaveCome s t c → IsFullFor t d → IsFullFor s (together c d)
  full_before s t c d h (inl k) = inl (omega (arith, k, h.limit, h.live))
  full_before s t c d h (inr (inl k)) = inr (inl (omega (arith, k, h.ops)))
  full_before s t c d h (inr (inr (inl k))) = inr (inr (inl (omega (arith, k, h.regions))))
  full_before s t c d h (inr (inr (inr k))) = inr (inr (inr (omega (arith, k, h.blocks))))

  -- what has come had room
  pub had_room : (s t : Nodes O B) (c : NodeCount) → IsStored t → HaveCome s t c → IsFullFor s c → ⊥
  had_room s t c w h (inl k) = omega (arith, k, h.limit, h.live, w.within)
  had_room s t c w h (inr (inl k)) = omega (arith, k, h.ops, w.op_slots.num_slots)
  had_room s t c w h (inr (inr (inl k))) = omega (arith, k, h.regions, w.region_slots.num_slots)
  had_room s t c w h (inr (inr (inr k))) = omega (arith, k, h.blocks, w.block_slots.num_slots)

  pub come_itself : (s : Nodes O B) → HaveCome s s no_node
  come_itself s = record {
    limit = refl;
    live = omega arith;
    ops = omega arith;
    regions = omega arith;
    blocks = omega arith;
  }

  pub come_on : (s t u : Nodes O B) (c d : NodeCount) → HaveCome s t c → HaveCome t u d → HaveCome s u (together c d)
  come_on s t u c d h k = record {
    limit = k.limit ∙ h.limit;
    live = omega (arith, h.live, k.live);
    ops = omega (arith, h.ops, k.ops);
    regions = omega (arith, h.regions, k.regions);
    blocks = omega (arith, h.blocks, k.blocks);
  }

  -- none has come after them
  pub come_still : (s t u : Nodes O B) (c : NodeCount) → HaveCome s t c → HaveCome t u no_node → HaveCome s u c
  come_still s t u c h k = record {
    limit = k.limit ∙ h.limit;
    live = omega (arith, h.live, k.live);
    ops = omega (arith, h.ops, k.ops);
    regions = omega (arith, h.regions, k.regions);
    blocks = omega (arith, h.blocks, k.blocks);
  }

  -- what moves makes no node
  pub come_moved : (s t u : Nodes O B) (c : NodeCount) (n : IRNode) → HaveCome s t c → MovesOnly t u n → HaveCome s u c
  come_moved s t u c n h m = record {
    limit = m.limit ∙ h.limit;
    live = omega (arith, h.live, ap num_full m.ops, ap num_full m.regions, ap num_full m.blocks);
    ops = subst (λ z. AreGiven s.ops z c.ops) (sym m.ops) h.ops;
    regions = subst (λ z. AreGiven s.regions z c.regions) (sym m.regions) h.regions;
    blocks = subst (λ z. AreGiven s.blocks z c.blocks) (sym m.blocks) h.blocks;
  }

  -- an operation with n regions, a block and a region have no room
  pub op_full : (s : Nodes O B) (n : ℕ) → IsStored s → IsFullForOp s n →
      IsFullFor s (record { ops = 1; regions = n; blocks = 0 })
  op_full s n w (inl lt) = inl (omega (arith, lt))
  op_full s n w (inr (inl le)) = inr (inl (runs_out s.ops w.op_slots le))
  op_full s n w (inr (inr lt)) = inr (inr (inl lt))

  pub block_full : (s : Nodes O B) → IsStored s → IsFullForBlock s → IsFullFor s one_block
  block_full s w (inl e) = inl (omega (arith, e))
  block_full s w (inr le) = inr (inr (inr (runs_out s.blocks w.block_slots le)))

  pub region_full : (s : Nodes O B) → IsStored s → IsFullForRegion s → IsFullFor s one_region
  region_full s w (inl e) = inl (omega (arith, e))
  region_full s w (inr le) = inr (inr (inl (runs_out s.regions w.region_slots le)))

-- what is made
module _ {K A T : Type 0} (s : ContextView K A T) (w : IsStored s.nodes) where
  op_came : (v : OpView K A) → HaveCome s.nodes (with_op s v 0).nodes one_op
  op_came v = record {
    limit = refl;
    live = omega (arith, num_full-with_new s.nodes.ops v w.op_slots);
    ops = new_given s.nodes.ops v;
    regions = omega arith;
    blocks = omega arith;
  }

  block_came : (v : BlockView A) → HaveCome s.nodes (with_block s v).nodes one_block
  block_came v = record {
    limit = refl;
    live = omega (arith, num_full-with_new s.nodes.blocks v w.block_slots);
    ops = omega arith;
    regions = omega arith;
    blocks = new_given s.nodes.blocks v;
  }

  region_came : (o : Ptr OperationKind) → HaveCome s.nodes (with_region s o).nodes one_region
  region_came o = record {
    limit = refl;
    live = omega (arith, num_full-with_new s.nodes.regions (record {}) w.region_slots);
    ops = omega arith;
    regions = new_given s.nodes.regions (record {});
    blocks = omega arith;
  }

  pub op_comes : (t : ContextView K A T) (v : OpView K A) → t ≡ with_op s v 0 → HaveCome s.nodes t.nodes one_op
  op_comes t v e = subst (λ z. HaveCome s.nodes z.nodes one_op) (sym e) (op_came v)

  pub block_comes : (t : ContextView K A T) (v : BlockView A) → t ≡ with_block s v → HaveCome s.nodes t.nodes one_block
  block_comes t v e = subst (λ z. HaveCome s.nodes z.nodes one_block) (sym e) (block_came v)

  pub region_comes : (t : ContextView K A T) (o : Ptr OperationKind) → t ≡ with_region s o
      → HaveCome s.nodes t.nodes one_region
  region_comes t o e = subst (λ z. HaveCome s.nodes z.nodes one_region) (sym e) (region_came o)

-- what is written into an operation or a block makes no node
module _ {K A T : Type 0} (s t : ContextView K A T) (c : NodeCount) (h : HaveCome s.nodes t.nodes c) where
  op_written : (p : Ptr OperationKind) (f : OpView K A → OpView K A) (o : Option (OpView K A)) → op_at t p ≡ o
      → HaveCome s.nodes (op_edited t p.slot f o).nodes c
  op_written p f None e = h
  op_written p f (Some v) e =
      let some : IsSome (content_at t.nodes.ops p.slot) = subst (λ z. IsSome z) (sym e) refl in
      record {
        limit = h.limit;
        live = omega (arith, h.live, num_full-with_content t.nodes.ops p.slot (f v) some);
        ops = omega (
          arith,
          h.ops,
          length-set t.nodes.ops.slots p.slot
              (record { version = version_at t.nodes.ops p.slot; content = Some (f v) }),
        );
        regions = h.regions;
        blocks = h.blocks;
      }

  block_written : (p : Ptr BlockKind) (f : BlockView A → BlockView A) (o : Option (BlockView A)) → block_at t p ≡ o
      → HaveCome s.nodes (block_edited t p.slot f o).nodes c
  block_written p f None e = h
  block_written p f (Some v) e =
      let some : IsSome (content_at t.nodes.blocks p.slot) = subst (λ z. IsSome z) (sym e) refl in
      record {
        limit = h.limit;
        live = omega (arith, h.live, num_full-with_content t.nodes.blocks p.slot (f v) some);
        ops = h.ops;
        regions = h.regions;
        blocks = omega (
          arith,
          h.blocks,
          length-set t.nodes.blocks.slots p.slot
              (record { version = version_at t.nodes.blocks p.slot; content = Some (f v) }),
        );
      }

  pub op_edit_comes : (u : ContextView K A T) (p : Ptr OperationKind) (f : OpView K A → OpView K A)
      → u ≡ with_op_edit t p f → HaveCome s.nodes u.nodes c
  op_edit_comes u p f e = subst (λ z. HaveCome s.nodes z.nodes c) (sym e) (op_written p f (op_at t p) refl)

  pub block_edit_comes : (u : ContextView K A T) (p : Ptr BlockKind) (f : BlockView A → BlockView A)
      → u ≡ with_block_edit t p f → HaveCome s.nodes u.nodes c
  block_edit_comes u p f e = subst (λ z. HaveCome s.nodes z.nodes c) (sym e) (block_written p f (block_at t p) refl)
