-- What live nodes hold stays live.
use Rattle.std.proofs.Common.{◌≡◌, ℕ, zero, suc, ◌≤◌, Bool, true, false, ◌&&◌, nat_lt, List, [], ◌∷◌, ◌++◌, length}
use Rattle.std.proofs.Common.{Option, Some, None, IsSome, ◌⊎◌, inl, inr, refl, sym, ◌∙◌, ap, subst, arith}
use Rattle.std.specs.Prelude.{All, Contains}
use Rattle.plir_data.specs.declared.op_set.OpKind.{OpKind}
use Rattle.plir_data.specs.declared.location.Location.{Location}
use Rattle.std.proofs.lemmas.List.Elements.{All-nil, All-cons, All-head, All-tail, All-weaker}
use Rattle.std.proofs.lemmas.List.{length-append}
use Rattle.std.specs.Ordering.{nat_cmp, match_ordering}
use Rattle.std.specs.declared.cmp.Ordering.TheVariants.{Less, Equal, Greater}
use Rattle.std.specs.Cmp.Lexicographic.{slice_cmp}
use Rattle.plir_data.specs.Dictionary.{dict_put}
use Rattle.std.proofs.lemmas.Bool.{cases_eq}
use Rattle.std.proofs.lemmas.List.{get_or_past}
use Rattle.std.proofs.lemmas.Option.{same_Some, none-some}
use Rattle.plir_store.specs.Lists.{Lists}
use Rattle.plir_store.specs.Table.{Table, Cell, cell_at, IsTable, content_at, version_at, is_live_at, next_slot}
use Rattle.plir_store.specs.Table.{slot_after, with_new, with_content}
use Rattle.plir_data.specs.Types.{TypeView, IsInstantiated, IsLive as IsTypeLive, AllLive}
use Rattle.plir_core.specs.declared.ptr.Ptr.{Ptr}
use Rattle.plir_core.specs.declared.ptr.Operation.{Operation as OperationKind}
use Rattle.plir_core.specs.declared.ptr.BasicBlock.{BasicBlock as BasicBlockKind}
use Rattle.plir_core.specs.declared.ptr.IRNode.TheVariants.{Operation, BasicBlock}
use Rattle.plir_core.specs.declared.value.Value.{Value}
use Rattle.plir_core.specs.declared.value.DefiningEntity.{DefiningEntity}
use Rattle.plir_core.specs.declared.value.DefiningEntity.TheVariants.{Op, Block}
use Rattle.plir_data.specs.AttrView.{AttrView, leaf, dict, vec, Items, no_items, item, Entries, no_entries, entry}
use Rattle.plir_data.specs.AttrLive.{leaf_handles, IsAttrLive, HandlesLive, AreItemsLive, AreEntriesLive}
use Rattle.plir_core.specs.Contents.{OpView, BlockView}
use Rattle.plir_core.specs.Nodes.{Nodes, ptr_at}
use Rattle.plir_core.specs.Stored.{IsStored}
use Rattle.plir_core.specs.Edits.{empty, SameNodes, with_new_op, with_new_block, with_new_region, with_new_regions}
use Rattle.plir_core.specs.ContextView.{ContextView, IsLive, IsValueLive, is_live, entity_node, types_from}
use Rattle.plir_core.specs.ContextView.{result_types_of, arg_types_of}
use Rattle.plir_core.specs.WellFormed.{OpHoldsLive, BlockHoldsLive, HoldsLive, IsWellFormed}
use Rattle.plir_core.proofs.Listing.{within_content, content_new_other, version_new_other, not_next}
use Rattle.plir_core.proofs.Seats.{live_some, live_version, some_live}
use Rattle.plir_core.proofs.Changes.{content_held, IsStored-held_op, IsStored-held_block}
use Rattle.plir_store.specs.TableLaws.{cell_at-with_new, cell_at-with_content, cell_at-with_content_other}
use Rattle.plir_core.specs.Changes.{with_op_content, with_block_content}

-- attributes after one is put under a key
All-dict_put : {V : Type 0} (P : List ℕ × V → Type 0) → ((k l : List ℕ) (v : V) → P (k, v) → P (l, v)) →
    (es : List (List ℕ × V)) (k : List ℕ) (v : V) → P (k, v) → All P es → All P (dict_put es k v)
All-dict_put P any [] k v h a = All-cons P (k, v) [] h (All-nil P)
All-dict_put P any (e ∷ es) k v h a = elim (slice_cmp nat_cmp k e.0) as
    (λ o. All P (match_ordering o ((k, v) ∷ e ∷ es) ((e.0, v) ∷ es) (e ∷ dict_put es k v))) [
      | Less ↦ All-cons P (k, v) (e ∷ es) h a
      | Equal ↦ All-cons P (e.0, v) es (any k e.0 v h) (All-tail P e es a)
      | Greater ↦ All-cons P e (dict_put es k v) (All-head P e es a) (All-dict_put P any es k v h (All-tail P e es a))
    ]

-- a slot that is next is vacant
next_vacant_in : {C : Type 0} (t : Table C) (fs : List ℕ) → IsTable t → t.free ≡ fs → content_at t
    (slot_after (length t.slots) fs) ≡ None
next_vacant_in t [] w e = ap (λ z. z.content) (get_or_past t.slots (length t.slots) _ (omega arith))
next_vacant_in t (f ∷ fs) w e = (w.free_slots f (rw e (inl refl))).vacant

pub next_vacant : {C : Type 0} (t : Table C) → IsTable t → content_at t (next_slot t) ≡ None
next_vacant t w = next_vacant_in t t.free w refl

both_kept : (a b : Bool) (i m n : ℕ) → (a ≡ true → (b ≡ true) × (m ≤ n)) → (a && nat_lt i m) ≡ true → (b && nat_lt i n)
    ≡ true
both_kept true b i m n f e = let g = f refl in rw g.0 (grind arith)
both_kept false b i m n f e = cc

-- a new value in a table: what was live is live, and each content is the new one or an old one
pub live_new : {C : Type 0} (t : Table C) (v : C) → IsTable t → (i x : ℕ) → is_live_at t i x ≡ true →
    (content_at (with_new t v) i ≡ content_at t i) × (is_live_at (with_new t v) i x ≡ true)
live_new t v w i x e =
    let n = not_next t i (next_vacant t w) (live_some t i x e) in
    let c = content_new_other t v i n in
    let d = version_new_other t v i n in
    (c, rw (c, d) e)

pub content_new : {C : Type 0} (t : Table C) (v : C) (o : ℕ) (u : C) → content_at (with_new t v) (next_slot t) ≡ Some v
    → content_at (with_new t v) o ≡ Some u → (content_at t o ≡ Some u) ⊎ (v ≡ u)
content_new t v o u here e = elim (cases_eq o (next_slot t)) [
  | inl q ↦ inr (same_Some v u (sym here ∙ ap (content_at (with_new t v)) (sym q) ∙ e))
  | inr n ↦ inl (sym (content_new_other t v o n) ∙ e)
]

pub ops-with_new_regions : {O B : Type 0} (s : Nodes O B) (o n : ℕ) → (with_new_regions s o n).ops ≡ s.ops
ops-with_new_regions s o zero = refl
ops-with_new_regions s o (suc n) = ops-with_new_regions s o n

blocks-with_new_regions : {O B : Type 0} (s : Nodes O B) (o n : ℕ) → (with_new_regions s o n).blocks ≡ s.blocks
blocks-with_new_regions s o zero = refl
blocks-with_new_regions s o (suc n) = blocks-with_new_regions s o n

types_grown_in : {T : Type 0} (old ts : List (TypeView T)) (ty : TypeView T) (k : ℕ) → IsTypeLive old k →
    ((ts ≡ old) ⊎ ((¬ Contains old ty) × (ts ≡ old ++ ty ∷ []))) → IsTypeLive ts k
types_grown_in old ts ty k l (inl e) = rw e l
types_grown_in old ts ty k l (inr e) = rw e.1 (omega (arith, length-append old (ty ∷ [])))

-- handles in attributes that are live stay so where all live ones do
module _ {A T : Type 0} (own : A → List ℕ) (ts ts' : List (TypeView T)) (more : (h : ℕ) → IsTypeLive ts h → IsTypeLive
    ts' h) where
  mutual
    attr_kept : (x : AttrView A) → IsAttrLive own ts x → IsAttrLive own ts' x
    attr_kept (leaf x) l = All-weaker (IsTypeLive ts) (IsTypeLive ts') more (leaf_handles own x) l
    attr_kept (dict es) l = entries_kept es l
    attr_kept (vec xs) l = items_kept xs l

    items_kept : (xs : Items A) → AreItemsLive own ts xs → AreItemsLive own ts' xs
    items_kept no_items l = tt
    items_kept (item x xs) l = (attr_kept x l.0, items_kept xs l.1)

    entries_kept : (es : Entries A) → AreEntriesLive own ts es → AreEntriesLive own ts' es
    entries_kept no_entries l = tt
    entries_kept (entry k x es) l = (attr_kept x l.0, entries_kept es l.1)

-- another content in a live slot
module _ {C : Type 0} (t : Table C) (i : ℕ) (v : C) (some : IsSome (content_at t i)) where
  pub here_held : cell_at (with_content t i v) i ≡ record { version = version_at t i; content = Some v }
  here_held = cell_at-with_content t i v (within_content t i some)

  pub held_cases : (j : ℕ) → ((j ≡ i) × (content_at (with_content t i v) j ≡ Some v)) ⊎
      (content_at (with_content t i v) j ≡ content_at t j)
  held_cases j = elim (cases_eq j i) [
    | inl q ↦ inl (q, ap (content_at (with_content t i v)) q ∙ ap (λ (z : Cell C). z.content) here_held)
    | inr n ↦ inr (ap (λ (z : Cell C). z.content) (cell_at-with_content_other t i v j n))
  ]

  pub version_held : (j : ℕ) → version_at (with_content t i v) j ≡ version_at t j
  version_held j = elim (cases_eq j i) [
    | inl q ↦ ap (version_at (with_content t i v)) q ∙ ap (λ (z : Cell C). z.version) here_held ∙ ap (version_at t)
        (sym q)
    | inr n ↦ ap (λ (z : Cell C). z.version) (cell_at-with_content_other t i v j n)
  ]

  pub live_held : (j x : ℕ) → is_live_at t j x ≡ true → is_live_at (with_content t i v) j x ≡ true
  live_held j x e =
      let live = some_live (with_content t i v) j (content_held t i v some j (live_some t j x e)) in
      subst (λ z. is_live_at (with_content t i v) j z ≡ true) (version_held j ∙ live_version t j x e) live

module _ {K A T : Type 0} where
  -- what was live is live still, with as many results or arguments at least
  pub record IsKept (s s' : ContextView K A T) : Type 0 where
    pub ops : (p : Ptr OperationKind) → IsLive s (Operation p) → IsLive s' (Operation p) ×
        (length (result_types_of s p) ≤ length (result_types_of s' p))
    pub blocks : (p : Ptr BasicBlockKind) → IsLive s (BasicBlock p) → IsLive s' (BasicBlock p) ×
        (length (arg_types_of s p) ≤ length (arg_types_of s' p))
    pub types : (h : ℕ) → IsTypeLive s.types h → IsTypeLive s'.types h

  pub value_kept : (s s' : ContextView K A T) → IsKept s s' → (x : Value) → IsValueLive s x → IsValueLive s' x
  value_kept s s' k x e = value_in x.entity x.index e
    where
      value_in : (d : DefiningEntity) (i : ℕ) → (is_live s (entity_node d) && nat_lt i (length (types_from s d))) ≡ true
          → (is_live s' (entity_node d) && nat_lt i (length (types_from s' d))) ≡ true
      value_in (Op p) i e = both_kept (is_live s (Operation p)) (is_live s' (Operation p)) i
          (length (result_types_of s p)) (length (result_types_of s' p)) (k.ops p) e
      value_in (Block p) i e = both_kept (is_live s (BasicBlock p)) (is_live s' (BasicBlock p)) i
          (length (arg_types_of s p)) (length (arg_types_of s' p)) (k.blocks p) e

  -- where an operation comes to hold something else, with results of the same types, what was live is live
  pub op_content_keeps : (s : ContextView K A T) (i : ℕ) (u v : OpView K A) → content_at s.nodes.ops i ≡ Some u →
      v.result_types ≡ u.result_types → IsKept s (with_op_content s i v)
  op_content_keeps s i u v was same = record {
    ops = λ p q. (
      live_held s.nodes.ops i v some p.slot p.version q,
      elim (held_cases s.nodes.ops i v some p.slot) [
        | inl g ↦ (let d = ap (content_at s.nodes.ops) g.0 ∙ was in rw (g.1, d, same) (omega arith))
        | inr g ↦ rw g
            (omega arith)
      ],
    );
    blocks = λ p q. (q, omega arith);
    types = λ t q. q;
  }
    where
      some : IsSome (content_at s.nodes.ops i)
      some = rw was refl

  module _ (own : A → List ℕ) where
    attributes_kept : (s s' : ContextView K A T) → IsKept s s' → (es : List (List ℕ × AttrView A)) → All
        (λ e. IsAttrLive own s.types e.1) es → All (λ e. IsAttrLive own s'.types e.1) es
    attributes_kept s s' k es a = All-weaker (λ e. IsAttrLive own s.types e.1) (λ e. IsAttrLive own s'.types e.1)
        (λ e x. attr_kept own s.types s'.types k.types e.1 x) es a

    pub op_kept : (s s' : ContextView K A T) → IsKept s s' → (v : OpView K A) → OpHoldsLive own s v → OpHoldsLive own s'
        v
    op_kept s s' k v h = record {
      operands = All-weaker (IsValueLive s) (IsValueLive s') (value_kept s s' k) v.operands h.operands;
      successors = All-weaker (λ b. IsLive s (BasicBlock b)) (λ b. IsLive s' (BasicBlock b)) (λ b e. (k.blocks b e).0)
          v.successors h.successors;
      result_types = All-weaker (IsTypeLive s.types) (IsTypeLive s'.types) k.types v.result_types h.result_types;
      attributes = attributes_kept s s' k v.attributes h.attributes;
    }

    pub block_kept : (s s' : ContextView K A T) → IsKept s s' → (v : BlockView A) → BlockHoldsLive own s v →
        BlockHoldsLive own s' v
    block_kept s s' k v h = record {
      arg_types = All-weaker (IsTypeLive s.types) (IsTypeLive s'.types) k.types v.arg_types h.arg_types;
      attributes = attributes_kept s s' k v.attributes h.attributes;
    }

    -- each content is an old one, or holds what is live
    pub holds_kept : (s s' : ContextView K A T) → IsKept s s' → HoldsLive own s →
        ((o : ℕ) (v : OpView K A) → content_at s'.nodes.ops o ≡ Some v → (content_at s.nodes.ops o ≡ Some v) ⊎
        OpHoldsLive own s' v) → ((b : ℕ) (v : BlockView A) → content_at s'.nodes.blocks b ≡ Some v →
        (content_at s.nodes.blocks b ≡ Some v) ⊎ BlockHoldsLive own s' v) → HoldsLive own s'
    holds_kept s s' k h ops blocks = record {
      ops = λ o v e. elim (ops o v e) [ inl f ↦ op_kept s s' k v (h.ops o v f) | inr g ↦ g ];
      blocks = λ b v e. elim (blocks b v e) [ inl f ↦ block_kept s s' k v (h.blocks b v f) | inr g ↦ g ];
    }

    -- where only links change
    pub holds_linked : (s : ContextView K A T) (n : Nodes (OpView K A) (BlockView A)) → n.ops ≡ s.nodes.ops → n.blocks ≡
        s.nodes.blocks → HoldsLive own s → HoldsLive own (record s { nodes = n })
    holds_linked s n eo eb h =
        let s' : ContextView K A T = record s { nodes = n } in
        let k : IsKept s s' = record {
          ops = λ p e. rw eo (e, omega arith);
          blocks = λ p e. rw eb (e, omega arith);
          types = λ h e. e;
        } in
        holds_kept s s' k h (λ o v e. inl (rw eo at e)) (λ b v e. inl (rw eb at e))

    -- The changes of a context, where s is made of the fields.
    pub whole_linked : (s : ContextView K A T) → IsWellFormed own s → (n : Nodes (OpView K A) (BlockView A)) → n.ops ≡
        s.nodes.ops → n.blocks ≡ s.nodes.blocks → IsStored n → IsWellFormed own (record s { nodes = n })
    whole_linked s w n eo eb f = record { stored = f; holds = holds_linked s n eo eb w.holds }

    pub op_linked : (s : ContextView K A T) → IsWellFormed own s → (n : Nodes (OpView K A) (BlockView A)) (l : Lists) →
        n ≡ record s.nodes { ops_in_block = l } → IsStored n → IsWellFormed own (record s { nodes = n })
    op_linked s w n l e f = whole_linked s w n (ap (λ (z : Nodes (OpView K A) (BlockView A)). z.ops) e)
        (ap (λ (z : Nodes (OpView K A) (BlockView A)). z.blocks) e) f

    pub block_linked : (s : ContextView K A T) → IsWellFormed own s → (n : Nodes (OpView K A) (BlockView A)) (l : Lists)
        → n ≡ record s.nodes { blocks_in_region = l } → IsStored n → IsWellFormed own (record s { nodes = n })
    block_linked s w n l e f = whole_linked s w n (ap (λ (z : Nodes (OpView K A) (BlockView A)). z.ops) e)
        (ap (λ (z : Nodes (OpView K A) (BlockView A)). z.blocks) e) f

    -- a new region
    pub region_added : (s : ContextView K A T) → IsWellFormed own s → (n : Nodes (OpView K A) (BlockView A)) (o : ℕ) → n
        ≡ with_new_region s.nodes o → IsStored n → IsWellFormed own (record s { nodes = n })
    region_added s w n o e f = whole_linked s w n (ap (λ (z : Nodes (OpView K A) (BlockView A)). z.ops) e)
        (ap (λ (z : Nodes (OpView K A) (BlockView A)). z.blocks) e) f

    pub block_made : (s : ContextView K A T) → IsWellFormed own s → (n : Nodes (OpView K A) (BlockView A))
        (v : BlockView A) → n ≡ with_new_block s.nodes v → IsStored n → content_at (with_new s.nodes.blocks v)
        (next_slot s.nodes.blocks) ≡ Some v → BlockHoldsLive own s v → IsWellFormed own (record s { nodes = n })
    block_made s w n v e f here h =
        let s' : ContextView K A T = record s { nodes = n } in
        let k : IsKept s s' = record {
          ops = λ p q. rw e (q, omega arith);
          blocks = λ p q. let x = live_new s.nodes.blocks v w.stored.block_slots p.slot p.version q in rw e
              (x.1, rw x.0 (omega arith));
          types = λ t q. q;
        } in
        record {
          stored = f;
          holds = holds_kept s s' k w.holds (λ o u q. inl (rw e at q)) (λ b u q. elim
              (content_new s.nodes.blocks v b u here (rw e at q)) [
                | inl x ↦ inl x
                | inr x ↦ inr (subst (BlockHoldsLive own s') x (block_kept s s' k v h))
              ]);
        }

    pub op_made : (s : ContextView K A T) → IsWellFormed own s → (n : Nodes (OpView K A) (BlockView A)) (v : OpView K A)
        (o k : ℕ) → n ≡ with_new_regions (with_new_op s.nodes v) o k → IsStored n → OpHoldsLive own s v → IsWellFormed
        own (record s { nodes = n })
    op_made s w n v o k e f h =
        let s' : ContextView K A T = record s { nodes = n } in
        let eo : n.ops ≡ with_new s.nodes.ops v = ap (λ (z : Nodes (OpView K A) (BlockView A)). z.ops) e ∙
        ops-with_new_regions (with_new_op s.nodes v) o k in
        let eb : n.blocks ≡ s.nodes.blocks = ap (λ (z : Nodes (OpView K A) (BlockView A)). z.blocks) e ∙
        blocks-with_new_regions (with_new_op s.nodes v) o k in
        let here : content_at (with_new s.nodes.ops v) (next_slot s.nodes.ops) ≡ Some v = ap
        (λ (z : Cell (OpView K A)). z.content) (cell_at-with_new s.nodes.ops v w.stored.op_slots) in
        let k : IsKept s s' = record {
          ops = λ p q. let x = live_new s.nodes.ops v w.stored.op_slots p.slot p.version q in rw eo
              (x.1, rw x.0 (omega arith));
          blocks = λ p q. rw eb (q, omega arith);
          types = λ t q. q;
        } in
        record {
          stored = f;
          holds = holds_kept s s' k w.holds (λ b u q. elim (content_new s.nodes.ops v b u here (rw eo at q)) [
            | inl x ↦ inl x
            | inr x ↦ inr (subst (OpHoldsLive own s') x (op_kept s s' k v h))
          ]) (λ b u q. inl (rw eb at q));
        }

    -- no live node has changed
    pub whole_same : (s : ContextView K A T) → IsWellFormed own s → (n : Nodes (OpView K A) (BlockView A)) → SameNodes
        s.nodes n → IsStored n → IsWellFormed own (record s { nodes = n })
    whole_same s w n x f =
        let s' : ContextView K A T = record s { nodes = n } in
        let k : IsKept s s' = record {
          ops = λ p q. (x.live (Operation p) ∙ q, rw (x.ops p q) (omega arith));
          blocks = λ p q. (x.live (BasicBlock p) ∙ q, rw (x.blocks p q) (omega arith));
          types = λ t q. q;
        } in
        record {
          stored = f;
          holds = holds_kept s s' k w.holds (λ o u q. inl (old_op o u q)) (λ b u q. inl (old_block b u q));
        }
      where
        old_op : (o : ℕ) (u : OpView K A) → content_at n.ops o ≡ Some u → content_at s.nodes.ops o ≡ Some u
        old_op o u q =
            let live : is_live_at n.ops o (version_at n.ops o) ≡ true = some_live n.ops o (rw q refl) in
            sym (x.ops (ptr_at n.ops o) (sym (x.live (Operation (ptr_at n.ops o))) ∙ live)) ∙ q

        old_block : (b : ℕ) (u : BlockView A) → content_at n.blocks b ≡ Some u → content_at s.nodes.blocks b ≡ Some u
        old_block b u q =
            let live : is_live_at n.blocks b (version_at n.blocks b) ≡ true = some_live n.blocks b (rw q refl) in
            sym (x.blocks (ptr_at n.blocks b) (sym (x.live (BasicBlock (ptr_at n.blocks b))) ∙ live)) ∙ q

    -- what an operation or a block holds is replaced
    pub op_replaced : (s : ContextView K A T) → IsWellFormed own s → (n : Nodes (OpView K A) (BlockView A)) (i : ℕ)
        (u v : OpView K A) → n ≡ record s.nodes { ops = with_content s.nodes.ops i v } → IsStored n → content_at
        s.nodes.ops i ≡ Some u → v.result_types ≡ u.result_types → OpHoldsLive own s v → IsWellFormed own
        (record s { nodes = n })
    op_replaced s w n i u v e f was same h = rw e (record { stored = rw e at f; holds = holds })
      where
        some : IsSome (content_at s.nodes.ops i)
        some = rw was refl

        kept : IsKept s (with_op_content s i v)
        kept = op_content_keeps s i u v was same

        holds : HoldsLive own (with_op_content s i v)
        holds = holds_kept s (with_op_content s i v) kept w.holds (λ o z q. elim (held_cases s.nodes.ops i v some o) [
          | inl g ↦ inr (subst (OpHoldsLive own (with_op_content s i v)) (same_Some v z (sym g.1 ∙ q))
              (op_kept s (with_op_content s i v) kept v h))
          | inr g ↦ inl (sym g ∙ q)
        ]) (λ b z q. inl q)

    pub block_replaced : (s : ContextView K A T) → IsWellFormed own s → (n : Nodes (OpView K A) (BlockView A)) (i : ℕ)
        (u v : BlockView A) → n ≡ record s.nodes { blocks = with_content s.nodes.blocks i v } → IsStored n → content_at
        s.nodes.blocks i ≡ Some u → v.arg_types ≡ u.arg_types → BlockHoldsLive own s v → IsWellFormed own
        (record s { nodes = n })
    block_replaced s w n i u v e f was same h = rw e (record { stored = rw e at f; holds = holds })
      where
        some : IsSome (content_at s.nodes.blocks i)
        some = rw was refl

        kept : IsKept s (with_block_content s i v)
        kept = record {
          ops = λ p q. (q, omega arith);
          blocks = λ p q. (
            live_held s.nodes.blocks i v some p.slot p.version q,
            elim
                (held_cases s.nodes.blocks i v some p.slot) [
                  | inl g ↦ (let d = ap (content_at s.nodes.blocks) g.0 ∙ was in
                      rw (g.1, d, same) (omega arith))
                  | inr g ↦ rw g (omega arith)
                ],
          );
          types = λ t q. q;
        }

        holds : HoldsLive own (with_block_content s i v)
        holds = holds_kept s (with_block_content s i v) kept w.holds
            (λ b z q. inl q) (λ o z q. elim (held_cases s.nodes.blocks i v some o) [
              | inl g ↦ inr (subst (BlockHoldsLive own (with_block_content s i v)) (same_Some v z (sym g.1 ∙ q))
                  (block_kept s (with_block_content s i v) kept v h))
              | inr g ↦ inl (sym g ∙ q)
            ])

    -- no nodes
    pub whole_empty : (n : Nodes (OpView K A) (BlockView A)) (ts : List (TypeView T)) (m : ℕ) → n ≡ empty m → IsStored n
        → IsWellFormed own (record { nodes = n; types = ts })
    whole_empty n ts m e f = record {
      stored = f;
      holds = record {
        ops = λ o v q. absurd (none-some v (ap (λ (z : Nodes (OpView K A) (BlockView A)). content_at z.ops o) (sym e) ∙
            q));
        blocks = λ b v q. absurd (none-some v (ap (λ (z : Nodes (OpView K A) (BlockView A)). content_at z.blocks b)
            (sym e) ∙ q));
      };
    }

    -- more types
    pub whole_typed : (s : ContextView K A T) → IsWellFormed own s → (ts : List (TypeView T)) →
        ((h : ℕ) → IsTypeLive s.types h → IsTypeLive ts h) → IsWellFormed own (record { nodes = s.nodes; types = ts })
    whole_typed s w ts more =
        let s' : ContextView K A T = record { nodes = s.nodes; types = ts } in
        let k : IsKept s s' = record { ops = λ p e. (e, omega arith); blocks = λ p e. (e, omega arith); types = more }
        in
        record { stored = w.stored; holds = holds_kept s s' k w.holds (λ o v e. inl e) (λ b v e. inl e) }

    pub whole_instantiated : (s : ContextView K A T) → IsWellFormed own s → (ts : List (TypeView T)) (ty : TypeView T)
        (h : ℕ) → IsInstantiated s.types ty h ts → IsWellFormed own (record { nodes = s.nodes; types = ts })
    whole_instantiated s w ts ty h i = whole_typed s w ts (λ k l. types_grown_in s.types ts ty k l i.grown)

    -- The calls of a context, where t is its value and s is made of the fields.
    module _ (s t : ContextView K A T) (view : s ≡ t) (w : IsWellFormed own s) where
      handles_live : (hs : List ℕ) → AllLive t.types hs → AllLive s.types hs
      handles_live hs a = subst (λ (z : ContextView K A T). AllLive z.types hs) (sym view) a

      pub block_new : (n : Nodes (OpView K A) (BlockView A)) (l : Option (List ℕ)) (ts : List ℕ)
          (es : List (List ℕ × AttrView A)) → n ≡ with_new_block s.nodes (record
          { label = l; arg_types = ts; attributes = es }) → es ≡ [] → IsStored n → AllLive t.types ts → IsWellFormed own
          (record s { nodes = n })
      block_new n l ts es e q f a =
          block_made s w n (record { label = l; arg_types = ts; attributes = es }) e f
          (ap (λ (z : Cell (BlockView A)). z.content) (cell_at-with_new s.nodes.blocks _ w.stored.block_slots))
          (record {
            arg_types = handles_live ts a;
            attributes = rw q (All-nil (λ x. IsAttrLive own s.types x.1));
          })

      pub op_new : (n : Nodes (OpView K A) (BlockView A)) (k : OpKind K) (rs : List ℕ) (us : List Value)
          (bs : List (Ptr BasicBlockKind)) (es : List (List ℕ × AttrView A)) (l : Location) (o m : ℕ) → n ≡
          with_new_regions (with_new_op s.nodes (record {
            kind = k;
            result_types = rs;
            operands = us;
            successors = bs;
            attributes = es;
            location = l;
          })) o m → HandlesLive own t.types es → IsStored n → AllLive t.types rs → All
          (IsValueLive t) us → All (λ b. IsLive t (BasicBlock b)) bs → IsWellFormed own (record s { nodes = n })
      op_new n k rs us bs es l o m e q f ra ua ba =
          op_made s w n (record {
            kind = k;
            result_types = rs;
            operands = us;
            successors = bs;
            attributes = es;
            location
                = l;
          }) o m e f (record {
            operands = subst (λ (z : ContextView K A T). All (IsValueLive z) us) (sym view) ua;
            successors = subst (λ (z : ContextView K A T). All (λ b. IsLive z (BasicBlock b)) bs) (sym view) ba;
            result_types = handles_live rs ra;
            attributes = subst (λ (z : ContextView K A T). HandlesLive own z.types es) (sym view) q;
          })

      put_live : (es fs : List (List ℕ × AttrView A)) (k : List ℕ) (v : AttrView A) → (fs ≡ dict_put es k v) ⊎ (fs ≡ es)
          → IsAttrLive own t.types v → All (λ e. IsAttrLive own s.types e.1) es → All (λ e. IsAttrLive own s.types e.1)
          fs
      put_live es fs k v (inl e) h a = rw e (All-dict_put (λ x. IsAttrLive own s.types x.1) (λ k' l' v' p. p) es k v
          (subst (λ (z : ContextView K A T). IsAttrLive own z.types v) (sym view) h) a)
      put_live es fs k v (inr e) h a = rw e a

      pub op_attr_set : (p : Ptr OperationKind) (u : OpView K A) (fs : List (List ℕ × AttrView A)) (k : List ℕ)
          (v : AttrView A) → IsLive t (Operation p) → content_at s.nodes.ops p.slot ≡ Some u →
          (fs ≡ dict_put u.attributes k v) ⊎ (fs ≡ u.attributes) → IsAttrLive own t.types v → IsWellFormed own
          (record s { nodes = record s.nodes { ops = with_content s.nodes.ops p.slot (record u { attributes = fs }) } })
      op_attr_set p u fs k v live was put h =
          let x = w.holds.ops p.slot u was in
          op_replaced s w (record s.nodes { ops = with_content s.nodes.ops p.slot (record u { attributes = fs }) })
          p.slot u (record u { attributes = fs }) refl (IsStored-held_op s.nodes w.stored p.slot
          (record u { attributes = fs }) (rw was refl)) was refl (record {
            operands = x.operands;
            successors = x.successors;
            result_types = x.result_types;
            attributes = put_live u.attributes fs k v put h x.attributes;
          })

      pub block_attr_set : (p : Ptr BasicBlockKind) (u : BlockView A) (fs : List (List ℕ × AttrView A)) (k : List ℕ)
          (v : AttrView A) → IsLive t (BasicBlock p) → content_at s.nodes.blocks p.slot ≡ Some u →
          (fs ≡ dict_put u.attributes k v) ⊎ (fs ≡ u.attributes) → IsAttrLive own t.types v → IsWellFormed own
          (record s {
            nodes = record s.nodes {
              blocks = with_content s.nodes.blocks p.slot
                  (record u { attributes = fs });
            };
          })
      block_attr_set p u fs k v live was put h =
          let x = w.holds.blocks p.slot u was in
          block_replaced s w (record s.nodes {
            blocks = with_content s.nodes.blocks p.slot
                (record u { attributes = fs });
          }) p.slot u (record u { attributes = fs }) refl
          (IsStored-held_block s.nodes w.stored p.slot (record u { attributes = fs }) (rw was refl)) was refl
          (record {
            arg_types = x.arg_types;
            attributes = put_live u.attributes fs k v put h x.attributes;
          })
