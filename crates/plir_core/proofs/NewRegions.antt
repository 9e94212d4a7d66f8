-- An operation that gets its regions one after another.
use Rattle.std.proofs.Common.{◌≡◌, ℕ, ◌+◌, ◌≤◌, ◌<◌, ◌-◌, ◌^◌, ◌⊎◌, inr, List, [], ◌∷◌, length, Some, inl, refl, sym}
use Rattle.std.proofs.Common.{◌∙◌, ap, subst, arith, add-one, length-set}
use Rattle.std.proofs.lemmas.List.{length-append}
use Rattle.std.proofs.lemmas.List.Elements.{All-nil, All-cons, All-append, All-weaker}
use Rattle.std.proofs.lemmas.Option.{same_Some}
use Rattle.plir_store.specs.Table.{Table, Cell, IsTable, content_at, version_at, next_slot, slot_after, with_new}
use Rattle.plir_store.specs.Table.{with_new_in}
use Rattle.plir_store.specs.TableLaws.{num_full-with_new, cell_at-with_new}
use Rattle.plir_core.specs.declared.ptr.Ptr.{Ptr}
use Rattle.plir_core.specs.declared.ptr.Operation.{Operation as OperationKind}
use Rattle.plir_core.specs.declared.ptr.Region.{Region as RegionKind}
use Rattle.plir_core.specs.declared.ptr.IRNode.{IRNode}
use Rattle.plir_core.specs.declared.ptr.IRNode.TheVariants.{Operation, Region}
use Rattle.plir_store.specs.Members.{Has}
use Rattle.plir_core.specs.Nodes.{Nodes, ptr_at, num_nodes, node_children}
use Rattle.plir_core.specs.Stored.{IsStored}
use Rattle.plir_core.specs.Edits.{with_new_op, with_new_region, with_new_regions}
use Rattle.plir_core.specs.Made.{IsRegionAdded, IsMade, IsNewRegion, HasNewRegions}
use Rattle.plir_core.specs.Erase.{erased}
use Rattle.plir_core.specs.Refused.{IsUnmade}
use Rattle.plir_core.proofs.Facts.{parent-child}
use Rattle.plir_core.proofs.Added.{IsAdded-op, IsAdded-region, IsRegionAdded-made, IsMade-first, IsMade-more}

-- slots that are used again, and slots that come new
slots_with_new_in : {C : Type 0} (t : Table C) (v : C) (fs : List ℕ) → length (with_new_in t v fs).slots + length fs ≡
    length t.slots + length (with_new_in t v fs).free + 1
slots_with_new_in t v [] = omega (arith, length-append t.slots (record { version = 1; content = Some v } ∷ []))
slots_with_new_in t v (f ∷ fs) = omega (
  arith,
  length-set t.slots f (record {
    version = version_at t f + 1;
    content =
        Some v;
  }),
)

slots_with_new : {C : Type 0} (t : Table C) (v : C) → length (with_new t v).slots + length t.free ≡ length t.slots +
    length (with_new t v).free + 1
slots_with_new t v = slots_with_new_in t v t.free

-- a table whose next slot is past the last number has no free slot, and as many slots as there are numbers
pub spent_in : {C : Type 0} (t : Table C) (fs : List ℕ) (n : ℕ) → IsTable t → t.free ≡ fs → length t.slots ≤ n → n ≤
    slot_after (length t.slots) fs → (length fs ≡ 0) × (n ≤ length t.slots)
spent_in t [] n w e b h = (refl, h)
spent_in t (f ∷ fs) n w e b h = let x = (w.free_slots f (rw e (inl refl))).within in absurd (omega arith)

module _ {O B : Type 0} where
  -- n regions of the new operation p have been made
  pub record IsMaking (b : Nodes O B) (v : O) (p : Ptr OperationKind) (n : ℕ) (s : Nodes O B) : Type 0 where
    pub is : s ≡ with_new_regions (with_new_op b v) (next_slot b.ops) n
    pub slot : p.slot ≡ next_slot b.ops
    pub pointer : p ≡ ptr_at s.ops (next_slot b.ops)
    pub made : IsMade b s (Operation p)
    pub stored : IsStored s
    pub count : num_nodes s ≡ num_nodes b + 1 + n
    pub slots : length s.regions.slots + length b.regions.free ≡ length b.regions.slots + length s.regions.free + n
    pub ops : s.ops ≡ with_new b.ops v
    pub held : content_at s.ops p.slot ≡ Some v
    pub regions : HasNewRegions s (Operation p) n

  -- an operation gets one more region
  HasNewRegions-more : (s t : Nodes O B) (o r : IRNode) (n : ℕ) → IsStored s → HasNewRegions s o n → IsRegionAdded s t o
      r → HasNewRegions t o (n + 1)
  HasNewRegions-more s t o r n w h x = record {
    count = ap length x.last ∙ (let e = length-append (node_children s o) (r ∷ []) in let c = h.count in omega arith);
    each = rw x.last (All-append (IsNewRegion t o) (node_children s o) (r ∷ []) (All-weaker (IsNewRegion s o)
        (IsNewRegion t o) stays (node_children s o) h.each) (All-cons (IsNewRegion t o) r [] last
        (All-nil (IsNewRegion t o))));
  }
    where
      stays : (m : IRNode) → IsNewRegion s o m → IsNewRegion t o m
      stays m g = record {
        live = x.added.keeps.live m g.live;
        parent = x.added.keeps.parents m g.live ∙ g.parent;
        empty = x.added.children m g.live (λ q. subst (λ ks. Has ks m) (g.empty)
            (subst (λ z. Has (node_children s z) m) (same_Some o m q) (parent-child s w o m g.parent))) ∙ g.empty;
      }

      last : IsNewRegion t o r
      last = record { live = x.added.added; parent = x.added.placed; empty = x.added.leaf }

  pub IsMaking-start : (b s : Nodes O B) (v : O) (p : Ptr OperationKind) → IsStored b → s ≡ with_new_op b v → p ≡ ptr_at
      s.ops (next_slot b.ops) → IsStored s → IsMaking b v p 0 s
  IsMaking-start b s v p w e q f = record {
    is = e;
    slot = ap (λ z. z.slot) q;
    pointer = q;
    made = subst (λ z. IsMade b z (Operation p)) (sym e) (IsMade-first b (with_new_op b v) w (Operation p)
        (IsAdded-op b w v p (q ∙ ap (λ (z : Nodes O B). ptr_at z.ops (next_slot b.ops)) e)));
    stored = f;
    count = ap num_nodes e ∙ (let c = num_full-with_new b.ops v w.op_slots in omega arith);
    slots = let d : length s.regions.slots ≡ length b.regions.slots = ap (λ (z : Nodes O B). length z.regions.slots) e
        in let g : length s.regions.free ≡ length b.regions.free = ap (λ (z : Nodes O B). length z.regions.free) e in
        omega arith;
    ops = ap (λ (z : Nodes O B). z.ops) e;
    held = ap (λ (z : Nodes O B). content_at z.ops p.slot) e ∙ ap (λ z. content_at (with_new b.ops v) z)
        (ap (λ z. z.slot) q) ∙ ap (λ (z : Cell O). z.content) (cell_at-with_new b.ops v w.op_slots);
    regions = let none : node_children s (Operation p) ≡ [] = subst (λ z. node_children z (Operation p) ≡ []) (sym e)
        ((IsAdded-op b w v p (q ∙ ap (λ (z : Nodes O B). ptr_at z.ops (next_slot b.ops)) e)).leaf) in record
        { count = ap length none; each = rw none (All-nil (IsNewRegion s (Operation p))) };
  }

  pub IsMaking-more : (b s t : Nodes O B) (v : O) (p : Ptr OperationKind) (r : Ptr RegionKind) (n : ℕ) → IsStored b →
      IsMaking b v p n s → t ≡ with_new_region s p.slot → r ≡ ptr_at t.regions (next_slot s.regions) → IsStored t →
      IsMaking b v p (n + 1) t
  IsMaking-more b s t v p r n w m e q f =
      let u = with_new_region s p.slot in
      let g : IsStored u = subst (λ (z : Nodes O B). IsStored z) e f in
      let a = IsAdded-region s m.stored p r m.made.root g (q ∙ ap
      (λ (z : Nodes O B). ptr_at z.regions (next_slot s.regions)) e) in
      record {
        is = rw add-one (e ∙ ap (with_new_region s) m.slot ∙ ap (λ z. with_new_region z (next_slot b.ops)) m.is);
        slot = m.slot;
        pointer = m.pointer ∙ ap (λ (z : Nodes O B). ptr_at z.ops (next_slot b.ops)) (sym e);
        made = subst (λ z. IsMade b z (Operation p)) (sym e) (IsMade-more b s u w m.stored (Operation p) (Region r)
            m.made a);
        stored = f;
        count = ap num_nodes e ∙ (let c = num_full-with_new s.regions (record {}) m.stored.region_slots in omega
            (arith, m.count));
        slots =
            let x = slots_with_new s.regions (record {}) in
            let d : length t.regions.slots ≡ length (with_new s.regions (record {})).slots = ap
            (λ (z : Nodes O B). length z.regions.slots) e in
            let h : length t.regions.free ≡ length (with_new s.regions (record {})).free = ap
            (λ (z : Nodes O B). length z.regions.free) e in
            omega (arith, m.slots);
        ops = ap (λ (z : Nodes O B). z.ops) e ∙ m.ops;
        held = ap (λ (z : Nodes O B). content_at z.ops p.slot) e ∙ m.held;
        regions = HasNewRegions-more s t (Operation p) (Region r) n m.stored m.regions
            (IsRegionAdded-made s t m.stored p r m.made.root e f q);
      }

  -- where no further region is made, all is freed again
  pub IsMaking-freed : (b : Nodes O B) (v : O) (p : Ptr OperationKind) (n m : ℕ) (s t u : Nodes O B) → IsMaking b v p n
      s → n < m → t ≡ s → u ≡ erased t (Operation p) → IsUnmade b u v m
  IsMaking-freed b v p n m s t u k h e f =
      let is : p ≡ ptr_at (with_new b.ops v) (next_slot b.ops) = k.pointer ∙ ap
      (λ z. ptr_at z (next_slot b.ops)) k.ops in
      inr (
        n,
        (
          omega arith,
          f ∙ ap (λ z. erased z (Operation p)) (e ∙ k.is) ∙ ap
              (λ z. erased (with_new_regions (with_new_op b v) (next_slot b.ops) n) (Operation z)) is,
        ),
      )

  -- where no further region can be made within the limit, the slot numbers of regions are spent
  pub spent_refusal : (b : Nodes O B) (v : O) (p : Ptr OperationKind) (n m : ℕ) (s : Nodes O B) → IsMaking b v p n s → n
      < m → num_nodes b + 1 + m ≤ b.limit → (num_nodes s ≡ s.limit) ⊎ (2 ^ 32 - 1 ≤ next_slot s.regions) → 2 ^ 32 - 1 +
      length b.regions.free < length b.regions.slots + m
  spent_refusal b v p n m s k h fits (inl full) = let l = k.made.keeps.limit in absurd (omega (arith, k.count))
  spent_refusal b v p n m s k h fits (inr spent) =
      let few : length s.regions.slots ≤ 2 ^ 32 - 1 = let x = k.stored.region_slots.num_slots in omega arith in
      let x = spent_in s.regions s.regions.free (2 ^ 32 - 1) k.stored.region_slots refl few spent in
      omega (arith, k.slots)
