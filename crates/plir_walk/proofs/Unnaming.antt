-- Nodes that lose their names one after another.
use Rattle.std.proofs.Common.{◌≡◌, ℕ, suc, ◌+◌, ◌≤◌, ◌^◌, List, [], ◌∷◌, length, Option, Some, None, Ok, Err, Result}
use Rattle.std.proofs.Common.{inl, inr, refl, sym, ap, subst, ◌∙◌, slice_get, arith}
use Rattle.std.specs.declared.ops.ControlFlow.TheVariants.{Continue}
use Rattle.std.proofs.lemmas.Option.{same_Some, none-some}
use Rattle.plir_core.specs.declared.ptr.Ptr.{Ptr}
use Rattle.plir_core.specs.declared.ptr.BasicBlock.{BasicBlock as BasicBlockKind}
use Rattle.plir_core.specs.declared.ptr.IRNode.{IRNode}
use Rattle.plir_core.specs.declared.ptr.IRNode.TheVariants.{Operation, Region, BasicBlock}
use Rattle.plir_store.specs.Members.{Has, Distinct}
use Rattle.plir_core.specs.Changes.{with_block_edit}
use Rattle.plir_core.specs.Contents.{BlockView}
use Rattle.plir_core.specs.Stored.{op, block, seat_of}
use Rattle.plir_core.specs.ContextView.{ContextView, IsLive, is_live, given_out, children, parent_of}
use Rattle.plir_core.specs.Standing.{IsStanding}
use Rattle.plir_core.specs.Forest.{IsForest, look}
use Rattle.plir_store.specs.MemberLaws.{Has-at}
use Rattle.plir_walk.specs.Lawful.{Lawful, SameShape}
use Rattle.plir_walk.specs.declared.limit.CallLimit.{CallLimit}
use Rattle.plir_walk.specs.declared.config.WalkConfig.{WalkConfig}
use Rattle.plir_walk.specs.declared.interruptible.WalkContinue.TheVariants.{Advance}
use Rattle.plir_walk.specs.Tree.{IsUnder, NodeBefore, node_at, Place}
use Rattle.plir_walk.specs.Calls.{Call, Relation, Chain, nodes_of}
use Rattle.plir_walk.specs.ShutOut.{IsShutOut}
use Rattle.plir_walk.specs.Walk.{IsWalkWithin}
use Rattle.plir_walk.specs.Walked.{IsCallUnder, Walked, plain_answer}
use Rattle.plir_walk.specs.Unnamed.{unnamed, op_unnamed, block_unnamed, without_names, SameSlots, IsUnnamed}
use Rattle.plir_walk.proofs.Slots.{ptr_one}
use Rattle.plir_walk.proofs.Groves.{and_then-some}
use Rattle.plir_walk.proofs.Lawfulness.{lawful-same}
use Rattle.plir_walk.proofs.NamedStores.{op-edit-is, block-edit-is, edited, edit-then}
use Rattle.plir_walk.proofs.Orders.{total-order, Pairs-distinct, Chain-each}
use Rattle.plir_walk.proofs.Picked.{picked, Has-picked, picked-Has, Distinct-picked}
use Rattle.plir_walk.proofs.Refilled.{refilled, refilled-slots, refilled-apart, refilled-here, refilled-live}
use Rattle.plir_walk.proofs.Refilled.{refilled-given, refilled-children, refilled-parents}

-- the slot of an operation, and of a block
abbrev op_slot : IRNode → Option ℕ
op_slot (Operation p) = Some p.slot
op_slot (Region p) = None
op_slot (BasicBlock p) = None

abbrev block_slot : IRNode → Option ℕ
block_slot (Operation p) = None
block_slot (Region p) = None
block_slot (BasicBlock p) = Some p.slot

module _ {K A T : Type 0} where
  abbrev all_unnamed : ContextView K A T → List IRNode → ContextView K A T
  all_unnamed s [] = s
  all_unnamed s (n ∷ ns) = all_unnamed (without_names s n) ns

  abbrev at_once : ContextView K A T → List IRNode → ContextView K A T
  at_once s ns = record s {
    nodes = record s.nodes {
      ops = refilled s.nodes.ops op_unnamed (picked op_slot ns);
      blocks =
          refilled s.nodes.blocks block_unnamed (picked block_slot ns);
    };
  }

  unnamed-at_once : (s : ContextView K A T) (ns : List IRNode) → all_unnamed s ns ≡ at_once s ns
  unfolding refilled picked
  unnamed-at_once s [] = refl
  unnamed-at_once s (Operation p ∷ ns) = ap (λ z. all_unnamed z ns) (op-edit-is s p op_unnamed) ∙ unnamed-at_once
      (record s { nodes = record s.nodes { ops = edited s.nodes.ops p.slot op_unnamed } }) ns
  unnamed-at_once s (Region p ∷ ns) = unnamed-at_once s ns
  unnamed-at_once s (BasicBlock p ∷ ns) = ap (λ z. all_unnamed z ns) (block-edit-is s p block_unnamed) ∙ unnamed-at_once
      (record s { nodes = record s.nodes { blocks = edited s.nodes.blocks p.slot block_unnamed } }) ns

  -- one call keeps the shape, and is lawful
  module _ (s : ContextView K A T) (ns : List IRNode) where
    abbrev os : SameSlots s.nodes.ops (refilled s.nodes.ops op_unnamed (picked op_slot ns))
    os = refilled-slots op_unnamed (picked op_slot ns) s.nodes.ops

    abbrev bs : SameSlots s.nodes.blocks (refilled s.nodes.blocks block_unnamed (picked block_slot ns))
    bs = refilled-slots block_unnamed (picked block_slot ns) s.nodes.blocks

    at_once-live : (m : IRNode) → is_live (at_once s ns) m ≡ is_live s m
    at_once-live m = refilled-live s _ _ os bs m

    at_once-children : (m : IRNode) → children (at_once s ns) m ≡ children s m
    at_once-children m = refilled-children s _ _ os bs m

    at_once-parents : (m : IRNode) → parent_of (at_once s ns) m ≡ parent_of s m
    at_once-parents m = refilled-parents s _ _ os bs m

    at_once-given : (m : IRNode) → given_out (at_once s ns) m ≡ given_out s m
    at_once-given m = refilled-given s _ _ os bs m

  pub unnamed-lawful : (s t : ContextView K A T) (n m : IRNode) → t ≡ without_names s n → Lawful (look s) m (look t)
  unnamed-lawful s t n m e = subst (λ z. Lawful (look s) m (look z)) (sym (e ∙ unnamed-at_once s (n ∷ [])))
      (lawful-same (look s) (look (at_once s (n ∷ []))) m (at_once-live s (n ∷ [])) (at_once-parents s (n ∷ []))
      (at_once-children s (n ∷ [])) (λ k g. at_once-given s (n ∷ []) k ∙ g))

  pub unnamed-shape : (s t : ContextView K A T) (n : IRNode) → t ≡ without_names s n → SameShape (look s) (look t)
  unnamed-shape s t n e = subst (λ z. SameShape (look s) (look z)) (sym (e ∙ unnamed-at_once s (n ∷ [])))
      (record { live = at_once-live s (n ∷ []); children = at_once-children s (n ∷ []) })

-- a block whose attributes and then its label are edited
pub block-unnamed : {K A T : Type 0} (s : ContextView K A T) (p : Ptr BasicBlockKind) → with_block_edit
    (with_block_edit s p (λ b. record b { attributes = unnamed b.attributes })) p (λ b. record b { label = None }) ≡
    without_names s (BasicBlock p)
block-unnamed {A} s p =
    let clear : BlockView A → BlockView A = λ b. record b { attributes = unnamed b.attributes } in
    let plain : BlockView A → BlockView A = λ b. record b { label = None } in
    ap (λ z. with_block_edit z p plain) (block-edit-is s p clear)
    ∙ block-edit-is (record s { nodes = record s.nodes { blocks = edited s.nodes.blocks p.slot clear } }) p plain
    ∙ ap (λ t. record s { nodes = record s.nodes { blocks = t } }) (edit-then s.nodes.blocks p.slot clear plain)
    ∙ sym (block-edit-is s p block_unnamed)

module _ {K A T : Type 0} (s : ContextView K A T) where
  -- live nodes in one seat are one
  same-seat : (a b : IRNode) → IsLive s a → IsLive s b → seat_of a ≡ seat_of b → a ≡ b
  same-seat (Operation p) (Operation q) l m e = ap Operation (ptr_one s.nodes.ops p q l m
      (let f : p.slot ≡ q.slot = cc in f))
  same-seat (Region p) (Region q) l m e = ap Region (ptr_one s.nodes.regions p q l m
      (let f : p.slot ≡ q.slot = cc in f))
  same-seat (BasicBlock p) (BasicBlock q) l m e = ap BasicBlock (ptr_one s.nodes.blocks p q l m
      (let f : p.slot ≡ q.slot = cc in f))
  same-seat (Operation p) (Region q) l m e = cc
  same-seat (Operation p) (BasicBlock q) l m e = cc
  same-seat (Region p) (Operation q) l m e = cc
  same-seat (Region p) (BasicBlock q) l m e = cc
  same-seat (BasicBlock p) (Operation q) l m e = cc
  same-seat (BasicBlock p) (Region q) l m e = cc

  -- a node under a live one is live
  under-live : (p : Place) (r n : IRNode) → IsForest (look s) → IsLive s r → node_at (children s) r p ≡ Some n → IsLive
      s n
  under-live [] r n w l e = subst (IsLive s) (same_Some r n e) l
  under-live (i ∷ p) r n w l e =
      let z = and_then-some (λ c. node_at (children s) c p) (slice_get (children s r) i) n e in
      under-live p z.0 n w (w.child_live r z.0 (Has-at (children s r) i z.0 z.1)) z.2

  op-seat : (n : IRNode) (i : ℕ) → op_slot n ≡ Some i → seat_of n ≡ op i
  op-seat (Operation p) i e = ap op (same_Some p.slot i e)
  op-seat (Region p) i e = absurd (none-some i e)
  op-seat (BasicBlock p) i e = absurd (none-some i e)

  block-seat : (n : IRNode) (i : ℕ) → block_slot n ≡ Some i → seat_of n ≡ block i
  block-seat (Operation p) i e = absurd (none-some i e)
  block-seat (Region p) i e = absurd (none-some i e)
  block-seat (BasicBlock p) i e = ap block (same_Some p.slot i e)

-- the calls of a walk that takes the names of each node
chain-unnamed : {K A T S B : Type 0} (P : Relation (ContextView K A T) S B) → ((c : ContextView K A T) (s : S)
    (n : IRNode) (a : _) (c' : ContextView K A T) (s' : S) → P c s n a c' s' → c' ≡ without_names c n)
    → (calls : List (Call (ContextView K A T) S B)) (c : ContextView K A T) (s : S) (c' : ContextView K A T) (s' : S) →
    Chain P c s calls c' s' → c' ≡ all_unnamed c (nodes_of calls)
chain-unnamed P each [] c s c' s' h = h.0
chain-unnamed P each (x ∷ xs) c s c' s' h = chain-unnamed P each xs x.after x.left c' s' h.3 ∙ ap
    (λ z. all_unnamed z (nodes_of xs)) (each x.before x.state x.node x.answer x.after x.left h.2 ∙ ap
    (λ z. without_names z x.node) h.0)

length-nodes : {C S B : Type 0} (calls : List (Call C S B)) → length (nodes_of calls) ≡ length calls
length-nodes [] = refl
length-nodes (x ∷ xs) = ap suc (length-nodes xs)

-- each node under the root, and no other, lost its names once
module _ {K A T : Type 0} (s : ContextView K A T) (w : IsForest (look s)) (r : IRNode) (l : IsLive s r)
    (ns : List IRNode) (d : Distinct ns)
    (exactly : (n : IRNode) → (Has ns n → IsUnder (children s) r n) × (IsUnder (children s) r n → Has ns n)) where
  live-of : (n : IRNode) → Has ns n → IsLive s n
  live-of n h = let u = (exactly n).0 h in under-live s u.0 r n w l u.1

  ops-apart : (a b : IRNode) (i : ℕ) → IsLive s a → IsLive s b → op_slot a ≡ Some i → op_slot b ≡ Some i → a ≡ b
  ops-apart a b i la lb e f = same-seat s a b la lb (op-seat s a i e ∙ sym (op-seat s b i f))

  blocks-apart : (a b : IRNode) (i : ℕ) → IsLive s a → IsLive s b → block_slot a ≡ Some i → block_slot b ≡ Some i → a ≡
      b
  blocks-apart a b i la lb e f = same-seat s a b la lb (block-seat s a i e ∙ sym (block-seat s b i f))

  unnamed-once : IsUnnamed s (at_once s ns) r
  unnamed-once = record {
    ops_under = λ p u. refilled-here op_unnamed (picked op_slot ns) s.nodes.ops p.slot
        (Distinct-picked op_slot ns (λ a b i h k e f. ops-apart a b i (live-of a h) (live-of b k) e f) d)
        (Has-picked op_slot ns (Operation p) p.slot ((exactly (Operation p)).1 u) refl);
    blocks_under = λ p u. refilled-here block_unnamed (picked block_slot ns) s.nodes.blocks p.slot
        (Distinct-picked block_slot ns (λ a b i h k e f. blocks-apart a b i (live-of a h) (live-of b k) e f) d)
        (Has-picked block_slot ns (BasicBlock p) p.slot ((exactly (BasicBlock p)).1 u) refl);
    ops_apart = λ p live apart. refilled-apart op_unnamed (picked op_slot ns) s.nodes.ops p.slot
        (λ h. (let z = picked-Has op_slot ns p.slot h in apart ((exactly (Operation p)).0
        (subst (Has ns) (ops-apart z.0 (Operation p) p.slot (live-of z.0 z.1) live z.2 refl) z.1))));
    blocks_apart = λ p live apart. refilled-apart block_unnamed (picked block_slot ns) s.nodes.blocks p.slot
        (λ h. (let z = picked-Has block_slot ns p.slot h in apart ((exactly (BasicBlock p)).0
        (subst (Has ns) (blocks-apart z.0 (BasicBlock p) p.slot (live-of z.0 z.1) live z.2 refl) z.1))));
    live = at_once-live s ns;
    children = at_once-children s ns;
    parents = at_once-parents s ns;
    given = at_once-given s ns;
    limit = refl;
    types = refl;
    op_slots = os s ns;
    block_slots = bs s ns;
    rest = refl;
  }

-- What a walk leaves whose callback takes the names of each node.
pub walk-unnamed : {K A T S : Type 0} (w : WalkConfig) (post : Relation (ContextView K A T) S (Unit {0}))
    (c : ContextView K A T) (s : S) (r : IRNode) (c' : ContextView K A T) (s' : S) (limit : ℕ)
    (result : Result (Unit {0}) CallLimit)
    → Walked look w post c s r limit (plain_answer result) c' s' → ((d : ContextView K A T) (t : S) (n : IRNode) (a : _)
    (d' : ContextView K A T) (t' : S) → post d t n a d' t' → (a ≡ Continue Advance) × (d' ≡ without_names d n))
    → 2 ^ 32 ≤ limit + 1 → IsStanding c → IsLive c r → IsUnnamed c c' r
walk-unnamed w post c s r c' s' limit result h each enough stands live = go result walk
  where
    forest : IsForest (look c)
    forest = stands.forest

    walk : IsWalkWithin w (children c) r limit h.calls (plain_answer result)
    walk = h.unchanged (λ d t n a d' t' p. unnamed-shape d d' n (each d t n a d' t' p.made).1)

    once : Distinct (nodes_of h.calls)
    once = Pairs-distinct (NodeBefore w (children c) r) (nodes_of h.calls) (total-order w (children c) r
        walk.in_order.one_place).irreflexive walk.in_order.increasing

    left : c' ≡ at_once c (nodes_of h.calls)
    left = chain-unnamed (IsCallUnder look r post) (λ d t n a d' t' p. (each d t n a d' t' p.made).1) h.calls c s c' s'
        h.chain ∙ unnamed-at_once c (nodes_of h.calls)

    not-shut : (n : IRNode) → IsShutOut w (children c) r h.calls n → ⊥
    not-shut n o =
        let k = Chain-each (IsCallUnder look r post) c s h.calls c' s' h.chain o.skipped.0 o.skipped.1 in
        let x = o.skipped.0 in
        let e = sym (each x.before x.state x.node x.answer x.after x.left k.made).0 ∙ o.skipped.3 in
        let z : ⊥ = cc e in
        z

    go : (x : Result (Unit {0}) CallLimit) → IsWalkWithin w (children c) r limit h.calls (plain_answer x) → IsUnnamed c
        c' r
    go (Ok u) v = subst (λ z. IsUnnamed c z r) (sym left) (unnamed-once c forest r live (nodes_of h.calls) once
        (λ n. (v.in_order.under_root n, λ under. (v.answers.2 n).1 (under, not-shut n))))
    go (Err x) v =
        let missed = v.answers.3 in
        let more = stands.measured.counted (missed.0 ∷ nodes_of h.calls) (missed.2, once) (λ n k. elim k [
          | inl e ↦ subst (IsLive c) e (under-live c missed.1.0.0 r missed.0 forest live missed.1.0.1)
          | inr i ↦ (let u = v.in_order.under_root n i in under-live c u.0 r n forest live u.1)
        ]) in
        let made = v.answers.0 in
        let same = length-nodes h.calls in
        let within = stands.within in
        let fits = stands.limit_fits in
        absurd (omega arith)
