-- What the walk that verifies tells: that all operations are right, or which one is the first that is not.
use Rattle.std.proofs.Common.{◌≡◌, List, [], ◌∷◌, ◌++◌, inl, inr, refl, sym, ap, subst, ◌∙◌}
use Rattle.std.specs.declared.ops.ControlFlow.{ControlFlow}
use Rattle.std.specs.declared.ops.ControlFlow.TheVariants.{Continue, Break}
use Rattle.plir_store.specs.Members.{Has}
use Rattle.plir_store.specs.MemberLaws.{Has-mid}
use Rattle.plir_core.specs.declared.ptr.Ptr.{Ptr}
use Rattle.plir_core.specs.declared.ptr.Operation.{Operation as OperationKind}
use Rattle.plir_core.specs.declared.ptr.IRNode.{IRNode}
use Rattle.plir_core.specs.declared.ptr.IRNode.TheVariants.{Operation, Region, BasicBlock}
use Rattle.plir_core.specs.Forest.{look}
use Rattle.plir_core.specs.ContextView.{ContextView}
use Rattle.plir_walk.specs.declared.config.WalkConfig.{WalkConfig}
use Rattle.plir_walk.specs.declared.interruptible.WalkContinue.{WalkContinue}
use Rattle.plir_walk.specs.declared.interruptible.WalkContinue.TheVariants.{Advance, Skip}
use Rattle.plir_walk.specs.Calls.{Call, Chain, nodes_of, NoBreak}
use Rattle.plir_walk.specs.Laws.{BeforeOrders}
use Rattle.plir_walk.specs.OperationWalks.{AtOperations, OperationRelation, WalkedOperations}
use Rattle.plir_walk.specs.Tree.{IsUnder, NodeBefore}
use Rattle.plir_walk.specs.Walk.{IsDue}
use Rattle.plir_walk.specs.Walked.{IsCallUnder}

module _ {C S B : Type 0} where
  -- the call at a node that was called
  call-of : (xs : List (Call C S B)) (n : IRNode) → Has (nodes_of xs) n → (x : Call C S B) × Has xs x × (x.node ≡ n)
  call-of [] n h = absurd h
  call-of (x ∷ xs) n (inl e) = (x, inl refl, e)
  call-of (x ∷ xs) n (inr h) = let r = call-of xs n h in (r.0, inr r.1, r.2)

  node-called : (xs : List (Call C S B)) (x : Call C S B) → Has xs x → Has (nodes_of xs) x.node
  node-called [] x h = absurd h
  node-called (y ∷ xs) x (inl e) = inl (ap (λ z. z.node) e)
  node-called (y ∷ xs) x (inr h) = inr (node-called xs x h)

  -- none of the calls broke, or none but the last
  none-breaks : (xs : List (Call C S B)) → NoBreak xs → (x : Call C S B) → Has xs x → (b : B) → x.answer ≡ Break b → ⊥
  none-breaks [] n x h b e = absurd h
  none-breaks (y ∷ xs) n x (inl g) b e = n.0 b (ap (λ z. z.answer) g ∙ e)
  none-breaks (y ∷ xs) n x (inr h) b e = none-breaks xs n.1 x h b e

  last-breaks : (xs : List (Call C S B)) (end : Call C S B) → NoBreak xs → (x : Call C S B) → Has (xs ++ end ∷ []) x
      → (b : B) → x.answer ≡ Break b → end ≡ x
  last-breaks [] end n x (inl e) b f = e
  last-breaks [] end n x (inr h) b f = absurd h
  last-breaks (y ∷ xs) end n x (inl e) b f = absurd (n.0 b (ap (λ z. z.answer) e ∙ f))
  last-breaks (y ∷ xs) end n x (inr h) b f = last-breaks xs end n.1 x h b f

module _ {K A T S B : Type 0} (w : WalkConfig) (post : OperationRelation (ContextView K A T) S B)
    (Told : ContextView K A T → Ptr OperationKind → ControlFlow B WalkContinue → Type 0)
    (told : (c : ContextView K A T) (s : S) (p : Ptr OperationKind) (a : ControlFlow B WalkContinue)
    (c' : ContextView K A T) (s' : S) → post c s p a c' s' → (c' ≡ c) × Told c p a)
    (c0 : ContextView K A T) (root : Ptr OperationKind) (s0 s1 : S)
    (Right : Ptr OperationKind → Type 0) (Refused : Ptr OperationKind → B → Type 0)
    (goes : (p : Ptr OperationKind) (k : WalkContinue) → Told c0 p (Continue k) → (k ≡ Advance) × Right p)
    (stops : (p : Ptr OperationKind) (b : B) → Told c0 p (Break b) → Refused p b) where
  -- what is told at a node; calls are at operations alone
  abbrev Verdict : IRNode → ControlFlow B WalkContinue → Type 0
  Verdict (Operation p) a = Told c0 p a
  Verdict (Region r) a = ⊥
  Verdict (BasicBlock b) a = ⊥

  here : (c : ContextView K A T) (s : S) (n : IRNode) (a : ControlFlow B WalkContinue) (c' : ContextView K A T)
      (s' : S) → c ≡ c0 → AtOperations post c s n a c' s' → (c' ≡ c0) × Verdict n a
  here c s (Operation p) a c' s' e h =
      let t = told c s p a c' s' h in (t.0 ∙ e, subst (λ z. Told z p a) e t.1)
  here c s (Region r) a c' s' e h = absurd h
  here c s (BasicBlock b) a c' s' e h = absurd h

  each : (xs : List (Call (ContextView K A T) S B)) (c : ContextView K A T) (s : S) (c' : ContextView K A T) (s' : S) →
      c ≡ c0 → Chain (IsCallUnder look (Operation root) (AtOperations post)) c s xs c' s' →
      (x : Call (ContextView K A T) S B) → Has xs x → Verdict x.node x.answer
  each [] c s c' s' e h x has = absurd has
  each (y ∷ ys) c s c' s' e h x has =
      let t = here y.before y.state y.node y.answer y.after y.left (h.0 ∙ e) h.2.made in
      elim has [
        | inl q ↦ subst (λ z. Verdict z.node z.answer) q t.1
        | inr k ↦ each ys y.after y.left c' s' t.0 h.3 x k
      ]

  never-skips : (n : IRNode) (a : ControlFlow B WalkContinue) → Verdict n a → a ≡ Continue Skip → ⊥
  never-skips (Operation p) a v e =
      let skip : Skip ≡ Advance = (goes p Skip (subst (λ z. Told c0 p z) e v)).0 in let z : ⊥ = cc skip in z
  never-skips (Region r) a v e = absurd v
  never-skips (BasicBlock b) a v e = absurd v

  right : (p : Ptr OperationKind) (a : ControlFlow B WalkContinue) → ((b : B) → a ≡ Break b → ⊥) →
      Verdict (Operation p) a → Right p
  right p (Continue k) f v = (goes p k v).1
  right p (Break b) f v = absurd (f b refl)

  module _ (a : ControlFlow B WalkContinue) (h : WalkedOperations look w post c0 s0 (Operation root) a s1) where
    told-of : (x : Call (ContextView K A T) S B) → Has h.calls x → Verdict x.node x.answer
    told-of = each h.calls c0 s0 c0 s1 refl h.chain

    -- all under the root are due, since no call skips
    due : (p : Ptr OperationKind) → IsUnder (look c0).children (Operation root) (Operation p)
        → IsDue w (look c0).children (Operation root) h.calls (Operation p)
    due p under = (
      under,
      λ out. never-skips out.skipped.0.node out.skipped.0.answer (told-of out.skipped.0 out.skipped.1) out.skipped.3,
    )

    -- an operation is right whose call did not break
    past : (p : Ptr OperationKind) (x : Call (ContextView K A T) S B) → Has h.calls x → x.node ≡ Operation p
        → ((b : B) → x.answer ≡ Break b → ⊥) → Right p
    past p x has node quiet =
        right p x.answer quiet (subst (λ n. Verdict n x.answer) node (told-of x has))

  at-end : (k : WalkContinue) → WalkedOperations look w post c0 s0 (Operation root) (Continue k) s1
      → (p : Ptr OperationKind) → IsUnder (look c0).children (Operation root) (Operation p) → Right p
  at-end k h p under =
      let x = call-of h.calls (Operation p) ((h.walk.answers.2 (Operation p)).1 (due (Continue k) h p under, refl)) in
      past (Continue k) h p x.0 x.1 x.2 (none-breaks h.calls h.walk.answers.1 x.0 x.1)

  -- The first operation that is refused, and how.
  pub record IsFirst (b : B) : Type 0 where
    pub op : Ptr OperationKind
    pub under : IsUnder (look c0).children (Operation root) (Operation op)
    pub refused : Refused op b
    pub before : (q : Ptr OperationKind) → IsUnder (look c0).children (Operation root) (Operation q)
        → NodeBefore w (look c0).children (Operation root) (Operation q) (Operation op) → Right q

  -- the operation at which a call broke
  broke-at : (n : IRNode) (a : ControlFlow B WalkContinue) (b : B) → Verdict n a → a ≡ Break b
      → (p : Ptr OperationKind) × (n ≡ Operation p) × Refused p b
  broke-at (Operation p) a b v e = (p, refl, stops p b (subst (λ z. Told c0 p z) e v))
  broke-at (Region r) a b v e = absurd v
  broke-at (BasicBlock q) a b v e = absurd v

  at-break : (b : B) → BeforeOrders → WalkedOperations look w post c0 s0 (Operation root) (Break b) s1 → IsFirst b
  at-break b orders h =
      let last = h.walk.answers.0 in
      let front = last.0 in
      let end = last.1 in
      let are = last.2 in
      let up = h.walk.answers.1 front end are in
      let has : Has h.calls end = subst (λ z. Has z end) (sym are) (Has-mid front [] end) in
      let r = broke-at end.node end.answer b (told-of (Break b) h end has) last.3 in
      let called = subst (λ z. Has (nodes_of h.calls) z) r.1 (node-called h.calls end has) in
      let order = orders w (look c0).children (Operation root) h.walk.in_order.one_place in
      let Less : IRNode → IRNode → Type 0 = NodeBefore w (look c0).children (Operation root) in
      record {
        op = r.0;
        under = ((up (Operation r.0)).0 called).0.0.0;
        refused = r.2;
        before = λ q under lt.
            let within : Less end.node (Operation q) → ⊥ = λ e.
            order.irreflexive (Operation q) (order.transitive (Operation q) (Operation r.0) (Operation q) lt
            (subst (λ n. Less n (Operation q)) r.1 e)) in
            let x = call-of h.calls (Operation q) ((up (Operation q)).1 ((due (Break b) h q under, refl), within)) in
            past (Break b) h q x.0 x.1 x.2 (λ d e.
            let is : end ≡ x.0 = last-breaks front end last.4 x.0 (subst (λ z. Has z x.0) are x.1) d e in
            let same : Operation q ≡ Operation r.0 = sym x.2 ∙ (sym (ap (λ z. z.node) is) ∙ r.1) in
            order.irreflexive (Operation r.0) (subst (λ n. Less n (Operation r.0)) same lt));
      }

  -- a walk that went to its end found all right, and one that broke the first that is not
  pub all-right : (a : ControlFlow B WalkContinue) (k : WalkContinue) → a ≡ Continue k
      → WalkedOperations look w post c0 s0 (Operation root) a s1
      → (p : Ptr OperationKind) → IsUnder (look c0).children (Operation root) (Operation p) → Right p
  all-right a k e h = at-end k (subst (λ z. WalkedOperations look w post c0 s0 (Operation root) z s1) e h)

  pub first-refused : (a : ControlFlow B WalkContinue) (b : B) → a ≡ Break b → BeforeOrders
      → WalkedOperations look w post c0 s0 (Operation root) a s1 → IsFirst b
  first-refused a b e orders h =
      at-break b orders (subst (λ z. WalkedOperations look w post c0 s0 (Operation root) z s1) e h)
