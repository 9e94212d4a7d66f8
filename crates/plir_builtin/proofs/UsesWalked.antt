-- What the walk of a table says of the uses of the operations that it calls at, where each call checks one.
use Rattle.std.proofs.Common.{◌≡◌, Bool, true, List, [], ◌∷◌, inl, inr, refl, sym, ap, subst, ◌∙◌}
use Rattle.std.specs.declared.ops.ControlFlow.{ControlFlow}
use Rattle.std.specs.declared.ops.ControlFlow.TheVariants.{Continue, Break}
use Rattle.plir_core.specs.declared.ptr.Ptr.{Ptr}
use Rattle.plir_core.specs.declared.ptr.Operation.{Operation as OperationKind}
use Rattle.plir_core.specs.declared.ptr.Region.{Region as RegionKind}
use Rattle.plir_core.specs.declared.ptr.IRNode.{IRNode}
use Rattle.plir_core.specs.declared.ptr.IRNode.TheVariants.{Operation, Region, BasicBlock}
use Rattle.plir_core.specs.Forest.{Shape}
use Rattle.plir_store.specs.MemberLaws.{Has-mid}
use Rattle.plir_store.specs.Members.{Has}
use Rattle.plir_walk.specs.declared.interruptible.WalkContinue.{WalkContinue}
use Rattle.plir_walk.specs.declared.interruptible.WalkContinue.TheVariants.{Advance, Skip}
use Rattle.plir_walk.specs.declared.config.TheConstants.{WALKCONFIG_PREORDER_FORWARD as pre_forward}
use Rattle.plir_walk.specs.Laws.{BeforeOrders, IsTotalOrder}
use Rattle.plir_walk.specs.Tree.{IsProperlyUnder, NodeBefore}
use Rattle.plir_walk.specs.Calls.{Call, Chain, nodes_of}
use Rattle.plir_walk.specs.Walked.{IsCallUnder}
use Rattle.plir_builtin.specs.TableWalks.{OpRelation, AtOps, IsDueInTable, IsTableWalked, CallsTableUpToBreak}
use Rattle.plir_builtin.specs.SymbolUses.{IsInTable}
use Rattle.plir_builtin.proofs.OperationCalls.{call-of, last-breaks, node-called, none-breaks, one_op}

same_region : (r q : Ptr RegionKind) → Region q ∷ [] ≡ Region r ∷ [] → q ≡ r
same_region r q e = cc

plain : {B : Type 0} (a : ControlFlow B WalkContinue) → (a ≡ Continue Skip → ⊥) → ((d : B) → a ≡ Break d → ⊥)
    → a ≡ Continue Advance
plain (Continue Advance) f g = refl
plain (Continue Skip) f g = absurd (f refl)
plain (Break d) f g = absurd (g d refl)

module _ {C S B : Type 0} (look : C → Shape) (post : OpRelation C S B) (c0 : C) (Inv : S → Type 0)
    (stays : (c : C) (s : S) (p : Ptr OperationKind) (a : ControlFlow B WalkContinue) (c' : C) (s' : S)
    → post c s p a c' s' → c' ≡ c)
    (keeps : (s : S) (p : Ptr OperationKind) (a : ControlFlow B WalkContinue) (s' : S) → post c0 s p a c0 s' → Inv s
    → Inv s') where
  -- a call that was made with a state that is right
  pub record IsMade (x : Call C S B) : Type 0 where
    pub op : Ptr OperationKind
    pub node : x.node ≡ Operation op
    pub inv : Inv x.state
    pub met : post c0 x.state op x.answer c0 x.left

  made-at : (n : IRNode) (x : Call C S B) → x.node ≡ n → x.before ≡ c0 → Inv x.state
      → AtOps post x.before x.state n x.answer x.after x.left → IsMade x × (x.after ≡ c0) × Inv x.left
  made-at (Operation p) x en eb i h =
      let ea : x.after ≡ c0 = stays x.before x.state p x.answer x.after x.left h ∙ eb in
      let m : post c0 x.state p x.answer c0 x.left =
      subst (λ z. post c0 x.state p x.answer z x.left) ea
      (subst (λ z. post z x.state p x.answer x.after x.left) eb h) in
      (record { op = p; node = en; inv = i; met = m }, ea, keeps x.state p x.answer x.left m i)
  made-at (Region p) x en eb i h = absurd h
  made-at (BasicBlock p) x en eb i h = absurd h

  each-made : (root : IRNode) (xs : List (Call C S B)) (c : C) (s : S) (c' : C) (s' : S) → c ≡ c0 → Inv s
      → Chain (IsCallUnder look root (AtOps post)) c s xs c' s' → (x : Call C S B) → Has xs x → IsMade x
  each-made root [] c s c' s' e i h x has = absurd has
  each-made root (y ∷ xs) c s c' s' e i h x has =
      let m = made-at y.node y refl (h.0 ∙ e) (subst Inv (sym h.1) i) h.2.made in
      elim has [ inl q ↦ subst IsMade q m.0 | inr k ↦ each-made root xs y.after y.left c' s' m.1 m.2 h.3 x k ]

  module _ (is_table : C → Ptr OperationKind → Bool) (s : S) (i : Inv s) (t : Ptr OperationKind) (s' : S)
      (user : Ptr OperationKind → Bool)
      (holds : Ptr OperationKind → Type 0) (Refuses : Ptr OperationKind → B → Type 0)
      (never : (s : S) (p : Ptr OperationKind) (a : ControlFlow B WalkContinue) (s' : S)
      → post c0 s p a c0 s' → a ≡ Continue Skip → ⊥)
      (advances : (s : S) (p : Ptr OperationKind) (a : ControlFlow B WalkContinue) (s' : S)
      → post c0 s p a c0 s' → Inv s
      → a ≡ Continue Advance → user p ≡ true → holds p)
      (breaks : (s : S) (p : Ptr OperationKind) (a : ControlFlow B WalkContinue) (s' : S) → post c0 s p a c0 s' → Inv s
      → (b : B) → a ≡ Break b → (user p ≡ true) × Refuses p b) where
    -- what is called at the end is due by the calls
    to-hand : (a : ControlFlow B WalkContinue) (h : IsTableWalked look is_table post c0 s t a s')
        (p : Ptr OperationKind)
        → IsInTable (look c0).children (is_table c0) t p
        → IsDueInTable (is_table c0) (look c0).children (Region h.region) h.calls p
    to-hand a h p o =
        let same : Region o.region ≡ Region h.region =
        ap Region (sym (same_region o.region h.region (sym h.one_region ∙ o.one_region))) in
        record {
          below = subst (λ z. IsProperlyUnder (look c0).children z (Operation p)) same o.below;
          no_table =
              λ q v w. o.no_table q (subst (λ z. IsProperlyUnder (look c0).children z (Operation q)) (sym same) v) w;
          no_skip = λ a y v.
              let m = each-made (Region h.region) h.calls c0 s c0 s' refl i h.chain y.0 y.1 in
              never y.0.state m.op y.0.answer y.0.left m.met y.3;
        }

    -- the uses of an operation hold whose call did not break
    past : (a : ControlFlow B WalkContinue) (h : IsTableWalked look is_table post c0 s t a s') (p : Ptr OperationKind)
        (x : Call C S B) → Has h.calls x → x.node ≡ Operation p
        → ((b : B) → x.answer ≡ Break b → ⊥) → user p ≡ true → holds p
    past a h p x has node quiet u =
        let m = each-made (Region h.region) h.calls c0 s c0 s' refl i h.chain x has in
        let here : m.op ≡ p = one_op m.op p (sym m.node ∙ node) in
        let met : post c0 x.state p x.answer c0 x.left = subst (λ q. post c0 x.state q x.answer c0 x.left) here m.met in
        advances x.state p x.answer x.left met m.inv (plain x.answer (never x.state p x.answer x.left met) quiet) u

    holds-all : (k : WalkContinue) → IsTableWalked look is_table post c0 s t (Continue k) s' → (p : Ptr OperationKind)
        → IsInTable (look c0).children (is_table c0) t p → user p ≡ true → holds p
    holds-all k h p o u =
        let x = call-of h.calls (Operation p) ((h.handing.answers.2 p).1 (to-hand (Continue k) h p o)) in
        past (Continue k) h p x.0 x.1 x.2 (none-breaks h.calls h.handing.answers.1 x.0 x.1) u

    -- the first operation that is called whose uses are refused, and how
    pub record IsFirst (b : B) : Type 0 where
      pub op : Ptr OperationKind
      pub handed : IsInTable (look c0).children (is_table c0) t op
      pub is_user : user op ≡ true
      pub refused : Refuses op b
      pub before : (q : Ptr OperationKind) → IsInTable (look c0).children (is_table c0) t q → user q ≡ true
          → NodeBefore pre_forward (look c0).children (Region handed.region) (Operation q) (Operation op) → holds q

    -- before the operation of the last call, all uses hold
    holds-before : (b : B) (h : IsTableWalked look is_table post c0 s t (Break b) s')
        → IsTotalOrder pre_forward (look c0).children (Region h.region) → (p : Ptr OperationKind)
        → h.handing.answers.end.node ≡ Operation p
        → (q : Ptr OperationKind) → IsInTable (look c0).children (is_table c0) t q → user q ≡ true
        → NodeBefore pre_forward (look c0).children (Region h.region) (Operation q) (Operation p) → holds q
    holds-before b h order p at q o u lt =
        let k : CallsTableUpToBreak (is_table c0) (look c0).children (Region h.region) h.calls b = h.handing.answers in
        let Less : IRNode → IRNode → Type 0 = NodeBefore pre_forward (look c0).children (Region h.region) in
        let within : Less k.end.node (Operation q) → ⊥ =
        λ e. order.irreflexive (Operation q)
        (order.transitive (Operation q) (Operation p) (Operation q) lt (subst (λ n. Less n (Operation q)) at e)) in
        let x = call-of h.calls (Operation q) ((k.exactly q).1 (to-hand (Break b) h q o, within)) in
        let quiet : (d : B) → x.0.answer ≡ Break d → ⊥ = λ d e.
        let last : k.end ≡ x.0 = last-breaks k.front k.end k.none_before x.0 (subst (λ z. Has z x.0) k.are x.1) d e in
        let here : Operation q ≡ Operation p = sym x.2 ∙ (sym (ap (λ z. z.node) last) ∙ at) in
        order.irreflexive (Operation p) (subst (λ n. Less n (Operation p)) here lt) in
        past (Break b) h q x.0 x.1 x.2 quiet u

    fails-one : (b : B) → BeforeOrders → IsTableWalked look is_table post c0 s t (Break b) s' → IsFirst b
    fails-one b orders h =
        let k : CallsTableUpToBreak (is_table c0) (look c0).children (Region h.region) h.calls b = h.handing.answers in
        let has : Has h.calls k.end = subst (λ z. Has z k.end) (sym k.are) (Has-mid k.front [] k.end) in
        let m = each-made (Region h.region) h.calls c0 s c0 s' refl i h.chain k.end has in
        let to = ((k.exactly m.op).0
        (subst (λ z. Has (nodes_of h.calls) z) m.node (node-called h.calls k.end has))).0 in
        let r = breaks k.end.state m.op k.end.answer k.end.left m.met m.inv b k.broke in
        let order = orders pre_forward (look c0).children (Region h.region) h.handing.one_place in
        record {
          op = m.op;
          handed = record { region = h.region; one_region = h.one_region; below = to.below; no_table = to.no_table };
          is_user = r.0;
          refused = r.1;
          before = holds-before b h order m.op m.node;
        }

    -- where the walk broke nowhere, all uses hold; where it broke, the first is reported that does not
    pub all-hold : (a : ControlFlow B WalkContinue) (k : WalkContinue) → a ≡ Continue k
        → IsTableWalked look is_table post c0 s t a s'
        → (p : Ptr OperationKind) → IsInTable (look c0).children (is_table c0) t p → user p ≡ true → holds p
    all-hold a k e h = holds-all k (subst (λ z. IsTableWalked look is_table post c0 s t z s') e h)

    pub first-fails : (a : ControlFlow B WalkContinue) (b : B) → a ≡ Break b → BeforeOrders
        → IsTableWalked look is_table post c0 s t a s' → IsFirst b
    first-fails a b e orders h = fails-one b orders (subst (λ z. IsTableWalked look is_table post c0 s t z s') e h)
