-- The slots of nodes, as nodes come.
use Rattle.std.proofs.Common.{◌≡◌, ℕ, ◌+◌, ◌&&◌, ◌==◌, Bool, true, false, List, [], ◌∷◌, ◌++◌, Option, Some, None}
use Rattle.std.proofs.Common.{is_some, slice_get, get_or, inl, inr, refl, sym, ap, subst, ◌∙◌, set, eqb-true}
use Rattle.std.proofs.Math.ListN.{get_or-map}
use Rattle.std.proofs.Math.Seq.{map-set_same}
use Rattle.std.proofs.lemmas.Bool.{cases_eq}
use Rattle.std.proofs.lemmas.List.{length-map, map-append, map-set}
use Rattle.std.proofs.lemmas.List.Elements.{All-get_or}
use Rattle.std.proofs.lemmas.Option.{slice_get_within, get_or_from_slice_get}
use Rattle.plir_store.specs.Table.{Cell, Table, IsTable, no_cell, version_at, is_live_at, slot_after, next_slot}
use Rattle.plir_store.specs.Table.{with_new, with_new_in, with_content}
use Rattle.plir_store.specs.TableLaws.{cell_at-with_new, cell_at-with_new_other}
use Rattle.plir_core.specs.declared.ptr.Ptr.{Ptr}
use Rattle.plir_core.specs.declared.ptr.Operation.{Operation as OperationKind}
use Rattle.plir_core.specs.declared.ptr.Region.{Region as RegionKind}
use Rattle.plir_core.specs.declared.ptr.BasicBlock.{BasicBlock as BlockKind}
use Rattle.plir_core.specs.declared.ptr.IRNode.{IRNode}
use Rattle.plir_core.specs.declared.ptr.IRNode.TheVariants.{Operation, Region, BasicBlock}
use Rattle.plir_core.specs.Changes.{with_op, with_block, with_block_edit, block_edited}
use Rattle.plir_core.specs.Contents.{OpView, BlockView}
use Rattle.plir_core.specs.Stored.{IsStored}
use Rattle.plir_core.specs.Made.{IsMade, IsNewRegion, HasNewRegions}
use Rattle.plir_core.specs.Nodes.{Nodes, is_node_live, node_children, node_parent}
use Rattle.plir_core.specs.Placed.{IsPlaced}
use Rattle.plir_core.specs.ContextView.{ContextView, is_live, IsLive, block_at}
use Rattle.plir_read.specs.Slots.{KindSlots, kind_slots, next_number, next_pointer, with_next, with_next_in, NodeSlots}
use Rattle.plir_read.specs.Slots.{node_slots, with_one_like, AreNext, AreGivenOut}

-- ---- one kind

module _ {C : Type 0} (t : Table C) where
  abbrev version_of : Cell C → ℕ
  version_of c = c.version

  version_seen : (i : ℕ) → get_or (kind_slots t).versions i 0 ≡ version_at t i
  version_seen i = get_or-map version_of t.slots i no_cell

  number_seen : next_number (kind_slots t) ≡ next_slot t
  number_seen = ap (λ n. slot_after n t.free) (length-map t.slots version_of)

  new_in : (v : C) (fs : List ℕ) → kind_slots (with_new_in t v fs) ≡ with_next_in (kind_slots t).versions fs
  new_in v [] = ap (λ vs. let s : KindSlots = record { versions = vs; free = [] } in s)
      (map-append version_of t.slots (record { version = 1; content = Some v } ∷ []))
  new_in v (f ∷ fs) =
      let c : Cell C = record { version = version_at t f + 1; content = Some v } in
      ap (λ vs. let s : KindSlots = record { versions = vs; free = fs } in s)
      (map-set version_of t.slots f c ∙ ap (λ n. set (kind_slots t).versions f (n + 1)) (sym (version_seen f)))

  -- a new value
  pub kind_slots-with_new : (v : C) → kind_slots (with_new t v) ≡ with_next (kind_slots t)
  kind_slots-with_new v = new_in v t.free

  -- a value replaced
  pub kind_slots-with_content : (i : ℕ) (v : C) → kind_slots (with_content t i v) ≡ kind_slots t
  kind_slots-with_content i v =
      ap (λ vs. let s : KindSlots = record { versions = vs; free = t.free } in s)
      (map-set_same version_of t.slots i (record { version = version_at t i; content = Some v }) no_cell refl)

  -- what is live once a value has come, and was not before, is the next
  pub new_is_next : {X : Type 0} (v : C) (p : Ptr X) → IsTable t → is_live_at t p.slot p.version ≡ false →
      is_live_at (with_new t v) p.slot p.version ≡ true → p ≡ next_pointer (kind_slots t)
  new_is_next v p w old new = elim (cases_eq p.slot (next_slot t)) [
    | inl e ↦
        let here : is_live_at (with_new t v) (next_slot t) p.version ≡ true =
        subst (λ i. is_live_at (with_new t v) i p.version ≡ true) e new in
        let same : (version_at t (next_slot t) + 1 == p.version) ≡ true =
        sym (ap (λ (c : Cell C). is_some c.content && (c.version == p.version)) (cell_at-with_new t v w)) ∙ here in
        let x : p.slot ≡ next_number (kind_slots t) = e ∙ sym number_seen in
        let y : p.version ≡ get_or (kind_slots t).versions (next_number (kind_slots t)) 0 + 1 =
        sym (eqb-true (version_at t (next_slot t) + 1) p.version same) ∙
        ap (λ n. n + 1) (sym (version_seen (next_slot t)) ∙
        ap (λ i. get_or (kind_slots t).versions i 0) (sym number_seen)) in
        λ i. record { slot = x i; version = y i; kind = record {} }
    | inr n ↦
        let same = ap (λ (c : Cell C). is_some c.content && (c.version == p.version))
        (cell_at-with_new_other t v p.slot n) in
        let z : true ≡ false = sym new ∙ same ∙ old in
        cc
  ]

-- ---- all kinds

-- one list of nodes behind another
pub AreNext-append : (s t u : NodeSlots) (ns ms : List IRNode) → AreNext s ns t → AreNext t ms u →
    AreNext s (ns ++ ms) u
AreNext-append s t u [] ms e h = subst (λ z. AreNext z ms u) e h
AreNext-append s t u (n ∷ ns) ms e h = (e.0, AreNext-append (with_one_like s n) t u ns ms e.1 h)

module _ {K A T : Type 0} (s t : ContextView K A T) (w : IsStored s.nodes) where
  -- an operation without a region
  pub leaf_given : (v : OpView K A) (p : Ptr OperationKind) → t ≡ with_op s v 0 → is_live s (Operation p) ≡ false →
      IsLive t (Operation p) → AreGivenOut s.nodes (Operation p ∷ []) t.nodes
  leaf_given v p e old new = (
    new_is_next s.nodes.ops v p w.op_slots old (subst (λ z. IsLive z (Operation p)) e new),
    ap (λ z. node_slots z.nodes) e
        ∙ ap (λ k. let z : NodeSlots =
        record { ops = k; regions = kind_slots s.nodes.regions; blocks = kind_slots s.nodes.blocks } in z)
        (kind_slots-with_new s.nodes.ops v),
  )

  -- an operation with one region
  pub op_given : (v : OpView K A) (p : Ptr OperationKind) (r : Ptr RegionKind) → t ≡ with_op s v 1 →
      is_live s (Operation p) ≡ false → IsLive t (Operation p) → is_live s (Region r) ≡ false → IsLive t (Region r) →
      AreGivenOut s.nodes (Operation p ∷ Region r ∷ []) t.nodes
  op_given v p r e old new old_region new_region = (
    new_is_next s.nodes.ops v p w.op_slots old (subst (λ z. IsLive z (Operation p)) e new),
    (
      new_is_next s.nodes.regions (record {}) r w.region_slots old_region
          (subst (λ z. IsLive z (Region r)) e new_region),
      ap (λ z. node_slots z.nodes) e
          ∙ ap (λ k. let z : NodeSlots =
          record {
            ops = k;
            regions = kind_slots (with_new s.nodes.regions (record {}));
            blocks =
                kind_slots s.nodes.blocks;
          } in z) (kind_slots-with_new s.nodes.ops v)
          ∙ ap (λ k. let z : NodeSlots =
          record { ops = with_next (kind_slots s.nodes.ops); regions = k; blocks = kind_slots s.nodes.blocks } in z)
          (kind_slots-with_new s.nodes.regions (record {})),
    ),
  )

  -- a block
  pub block_given : (v : BlockView A) (p : Ptr BlockKind) → t ≡ with_block s v → is_live s (BasicBlock p) ≡ false →
      IsLive t (BasicBlock p) → AreGivenOut s.nodes (BasicBlock p ∷ []) t.nodes
  block_given v p e old new = (
    new_is_next s.nodes.blocks v p w.block_slots old (subst (λ z. IsLive z (BasicBlock p)) e new),
    ap (λ z. node_slots z.nodes) e
        ∙ ap (λ k. let z : NodeSlots =
        record { ops = kind_slots s.nodes.ops; regions = kind_slots s.nodes.regions; blocks = k } in z)
        (kind_slots-with_new s.nodes.blocks v),
  )

-- what is put under a node takes no slot
pub placed_slots : {O B : Type 0} (s t : Nodes O B) (n over : IRNode) (ks : List IRNode) → IsPlaced s t n over ks →
    node_slots t ≡ node_slots s
placed_slots s t n over ks p =
    λ i. record {
      ops = kind_slots (p.moved.ops i);
      regions = kind_slots (p.moved.regions i);
      blocks =
          kind_slots (p.moved.blocks i);
    }

-- the region of a new operation is new
pub region_new : {O B : Type 0} (s t : Nodes O B) (o r : IRNode) → IsMade s t o → HasNewRegions t o 1 →
    slice_get (node_children t o) 0 ≡ Some r → is_node_live s r ≡ false
region_new s t o r m h e = at (is_node_live s r) refl
  where
    at : (b : Bool) → is_node_live s r ≡ b → is_node_live s r ≡ false
    at true live =
        let region = All-get_or (IsNewRegion t o) (node_children t o) 0 r (slice_get_within (node_children t o) 0 r e)
        h.each in
        absurd (m.apart r live (
          1,
          ap (λ z. node_parent t z) (sym (get_or_from_slice_get (node_children t o) 0 r r e)) ∙
              region.parent,
        ))
    at false dead = dead

module _ {K A T : Type 0} where
  edited_slots : (s : ContextView K A T) (i : ℕ) (f : BlockView A → BlockView A) (o : Option (BlockView A)) →
      node_slots (block_edited s i f o).nodes ≡ node_slots s.nodes
  edited_slots s i f None = refl
  edited_slots s i f (Some v) =
      ap (λ k. let z : NodeSlots =
      record { ops = kind_slots s.nodes.ops; regions = kind_slots s.nodes.regions; blocks = k } in z)
      (kind_slots-with_content s.nodes.blocks i (f v))

  -- what is written into a block takes no slot
  pub given_edited : (s t u : ContextView K A T) (ns : List IRNode) (p : Ptr BlockKind)
      (f : BlockView A → BlockView A) → AreGivenOut s.nodes ns t.nodes → u ≡ with_block_edit t p f →
      AreGivenOut s.nodes ns u.nodes
  given_edited s t u ns p f g e =
      subst (λ z. AreNext (node_slots s.nodes) ns z)
      (sym (ap (λ z. node_slots z.nodes) e ∙ edited_slots t p.slot f (block_at t p))) g
