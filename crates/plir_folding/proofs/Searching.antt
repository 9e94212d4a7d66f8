-- A walk that finds an operation where something is left to be done.
use Rattle.std.proofs.Common.{◌≡◌, ◌≢◌, ℕ, zero, suc, ◌+◌, Bool, List, [], ◌∷◌, Option, Some, None, ◌⊎◌, inl, inr}
use Rattle.std.proofs.Common.{refl, sym, ap, subst, ◌∙◌, arith}
use Rattle.std.proofs.lemmas.Option.{same_Some}
use Rattle.std.specs.declared.ops.ControlFlow.{ControlFlow}
use Rattle.std.specs.declared.ops.ControlFlow.TheVariants.{Continue, Break}
use Rattle.plir_store.specs.Members.{Has}
use Rattle.plir_store.specs.MemberLaws.{Has-mid}
use Rattle.plir_core.specs.declared.ptr.Ptr.{Ptr}
use Rattle.plir_core.specs.declared.ptr.Operation.{Operation as OperationKind}
use Rattle.plir_core.specs.declared.ptr.IRNode.{IRNode}
use Rattle.plir_core.specs.declared.ptr.IRNode.TheVariants.{Operation, Region, BasicBlock}
use Rattle.plir_core.specs.declared.value.Value.{Value}
use Rattle.plir_core.specs.Above.{climb}
use Rattle.plir_core.specs.Forest.{look, IsBelow}
use Rattle.plir_core.specs.Measures.{depth}
use Rattle.plir_core.specs.Standing.{IsStanding}
use Rattle.plir_core.specs.ContextView.{ContextView, parent_of}
use Rattle.plir_walk.specs.declared.config.WalkConfig.{WalkConfig}
use Rattle.plir_walk.specs.declared.interruptible.WalkContinue.{WalkContinue}
use Rattle.plir_walk.specs.declared.interruptible.WalkContinue.TheVariants.{Advance, Skip}
use Rattle.plir_walk.specs.Calls.{Call, Chain, nodes_of, NoBreak}
use Rattle.plir_walk.specs.NodeLaws.{same-op, climb-nothing}
use Rattle.plir_walk.specs.OperationWalks.{AtOperations, OperationRelation, WalkedOperations}
use Rattle.plir_walk.specs.Tree.{IsUnder}
use Rattle.plir_walk.specs.TreeLaws.{reached-under, under-reached}
use Rattle.plir_walk.specs.Walk.{IsDue}
use Rattle.plir_walk.specs.Walked.{IsCallUnder}
use Rattle.plir_folding.specs.declared.identity_set.Side.{Side}
use Rattle.plir_folding.specs.Worth.{Integer}
use Rattle.plir_folding.specs.Identities.{IsLeft, IsPassed, ArePassed}
use Rattle.plir_folding.specs.PassedOn.{IsLookedAt}

-- what climbs to a node stands as much deeper as it climbs, so nothing stands below itself
module _ {K A T : Type 0} (s : ContextView K A T) (w : IsStanding s) where
  climb-deeper : (k : ℕ) (x a : IRNode) → climb (parent_of s) k (Some x) ≡ Some a → depth s x ≡ depth s a + k
  climb-deeper zero x a e = (let d = ap (depth s) (same_Some x a e) in omega (arith, d))
  climb-deeper (suc k) x a e = go (parent_of s x) refl (λ y h. climb-deeper k y a h)
    where
      go : (o : Option IRNode) → parent_of s x ≡ o
          → ((y : IRNode) → climb (parent_of s) k (Some y) ≡ Some a → depth s y ≡ depth s a + k)
          → depth s x ≡ depth s a + suc k
      go None q rest = absurd (climb-nothing (parent_of s) k a (ap (climb (parent_of s) k) (sym q) ∙ e))
      go (Some y) q rest =
          let r = rest y (ap (climb (parent_of s) k) (sym q) ∙ e) in
          let d = w.measured.deeper y x q in
          omega (arith, r, d)

  apart : (r p : Ptr OperationKind) → IsBelow (look s) (Operation r) (Operation p) → p ≢ r
  apart r p below same =
      let d = climb-deeper (suc below.0) (Operation p) (Operation r) below.1 in
      let e = ap (λ q. depth s (Operation q)) same in
      let z : ⊥ = omega (arith, d, e) in z

module _ {C S B : Type 0} where
  -- the call at a node that was called
  call-of : (xs : List (Call C S B)) (n : IRNode) → Has (nodes_of xs) n → (x : Call C S B) × Has xs x × (x.node ≡ n)
  call-of [] n h = absurd h
  call-of (x ∷ xs) n (inl e) = (x, inl refl, e)
  call-of (x ∷ xs) n (inr h) = (let r = call-of xs n h in (r.0, inr r.1, r.2))

  node-called : (xs : List (Call C S B)) (x : Call C S B) → Has xs x → Has (nodes_of xs) x.node
  node-called [] x h = absurd h
  node-called (y ∷ xs) x (inl e) = inl (ap (λ z. z.node) e)
  node-called (y ∷ xs) x (inr h) = inr (node-called xs x h)

  none-breaks : (xs : List (Call C S B)) → NoBreak xs → (x : Call C S B) → Has xs x → (b : B) → x.answer ≡ Break b → ⊥
  none-breaks [] n x h b e = absurd h
  none-breaks (y ∷ xs) n x (inl g) b e = n.0 b (ap (λ z. z.answer) g ∙ e)
  none-breaks (y ∷ xs) n x (inr h) b e = none-breaks xs n.1 x h b e

module _ {K A T S : Type 0} (holds : K → Side → Integer → Bool) (w : WalkConfig)
    (s : ContextView K A T) (standing : IsStanding s) (root : Ptr OperationKind)
    (post : OperationRelation (ContextView K A T) S (Ptr OperationKind))
    (told : (c : ContextView K A T) (u : S) (p : Ptr OperationKind) (a : ControlFlow (Ptr OperationKind) WalkContinue)
    (c' : ContextView K A T) (u' : S) → post c u p a c' u' → (c' ≡ c) × IsLookedAt holds c root p a) (u u' : S) where
  abbrev OneCall : Type 0
  OneCall = Call (ContextView K A T) S (Ptr OperationKind)

  -- what is told at a node; calls are at operations alone
  abbrev Verdict : IRNode → ControlFlow (Ptr OperationKind) WalkContinue → Type 0
  Verdict (Operation p) a = IsLookedAt holds s root p a
  Verdict (Region r) a = ⊥
  Verdict (BasicBlock b) a = ⊥

  here : (c : ContextView K A T) (v : S) (n : IRNode) (a : ControlFlow (Ptr OperationKind) WalkContinue)
      (c' : ContextView K A T) (v' : S) → c ≡ s → AtOperations post c v n a c' v' → (c' ≡ s) × Verdict n a
  here c v (Operation p) a c' v' e h =
      (let t = told c v p a c' v' h in (t.0 ∙ e, subst (λ z. IsLookedAt holds z root p a) e t.1))
  here c v (Region r) a c' v' e h = absurd h
  here c v (BasicBlock b) a c' v' e h = absurd h

  each : (xs : List OneCall) (c : ContextView K A T) (v : S) (c' : ContextView K A T) (v' : S)
      → c ≡ s → Chain (IsCallUnder look (Operation root) (AtOperations post)) c v xs c' v'
      → (x : OneCall) → Has xs x → Verdict x.node x.answer
  each [] c v c' v' e h x has = absurd has
  each (y ∷ ys) c v c' v' e h x has =
      (let t = here y.before y.state y.node y.answer y.after y.left (h.0 ∙ e) h.2.made in
      elim has [
        | inl q ↦ subst (λ z. Verdict z.node z.answer) q t.1
        | inr k ↦ each ys y.after y.left c' v' t.0 h.3 x k
      ])

  never-skips : (n : IRNode) (a : ControlFlow (Ptr OperationKind) WalkContinue) → Verdict n a → a ≡ Continue Skip → ⊥
  never-skips (Operation p) a v e = subst (λ z. IsLookedAt holds s root p z) e v
  never-skips (Region r) a v e = absurd v
  never-skips (BasicBlock b) a v e = absurd v

  passed : (p : Ptr OperationKind) (a : ControlFlow (Ptr OperationKind) WalkContinue)
      → ((b : Ptr OperationKind) → a ≡ Break b → ⊥) → Verdict (Operation p) a → (p ≡ root) ⊎ IsPassed holds s p
  passed p (Continue Advance) f v = v
  passed p (Continue Skip) f v = absurd v
  passed p (Break b) f v = absurd (f b refl)

  -- an operation below the root was found where something is left to be done
  abbrev IsFound : Ptr OperationKind → Type 0
  IsFound p = IsBelow (look s) (Operation root) (Operation p) × ((v : Value) × IsLeft holds s p v)

  below : (p : Ptr OperationKind) (k : ℕ) → climb (parent_of s) k (Some (Operation p)) ≡ Some (Operation root)
      → p ≢ root → IsBelow (look s) (Operation root) (Operation p)
  below p zero e other = absurd (other (same-op p root (same_Some (Operation p) (Operation root) e)))
  below p (suc k) e other = (k, e)

  found : (n : IRNode) (a : ControlFlow (Ptr OperationKind) WalkContinue) (b : Ptr OperationKind) → Verdict n a
      → a ≡ Break b → IsUnder (look s).children (Operation root) n → IsFound b
  found (Operation p) a b v e under =
      let t = subst (λ z. IsLookedAt holds s root p z) e v in
      let up = under-reached (look s) standing.forest (Operation p) (Operation root) under in
      subst IsFound (sym t.0) (below p up.0 up.1 t.1.0, t.1.1)
  found (Region r) a b v e under = absurd v
  found (BasicBlock q) a b v e under = absurd v

  pub found-at-break : (a : ControlFlow (Ptr OperationKind) WalkContinue) (b : Ptr OperationKind) → a ≡ Break b
      → WalkedOperations look w post s u (Operation root) a u' → IsFound b
  found-at-break a b is walked = go (subst (λ z. WalkedOperations look w post s u (Operation root) z u') is walked)
    where
      go : WalkedOperations look w post s u (Operation root) (Break b) u' → IsFound b
      go h =
          let last = h.walk.answers.0 in
          let front = last.0 in
          let end = last.1 in
          let are = last.2 in
          let has : Has h.calls end = subst (λ z. Has z end) (sym are) (Has-mid front [] end) in
          let called = node-called h.calls end has in
          found end.node end.answer b (each h.calls s u s u' refl h.chain end has) last.3
          (h.walk.in_order.under_root end.node called)

  pub passed-at-end : (a : ControlFlow (Ptr OperationKind) WalkContinue) (k : WalkContinue) → a ≡ Continue k
      → WalkedOperations look w post s u (Operation root) a u' → ArePassed holds s (Operation root)
  passed-at-end a k is walked = go (subst (λ z. WalkedOperations look w post s u (Operation root) z u') is walked)
    where
      go : WalkedOperations look w post s u (Operation root) (Continue k) u' → ArePassed holds s (Operation root)
      go h p b =
          let under =
          reached-under (look s) standing.forest (suc b.0) (Operation p) (Operation root) b.1 in
          let quiet : (x : OneCall) → Has h.calls x → Verdict x.node x.answer = each h.calls s u s u' refl h.chain in
          let due : IsDue w (look s).children (Operation root) h.calls (Operation p) = (
            under,
            λ out. never-skips out.skipped.0.node out.skipped.0.answer (quiet out.skipped.0 out.skipped.1)
                out.skipped.3,
          ) in
          let x = call-of h.calls (Operation p) ((h.walk.answers.2 (Operation p)).1 (due, refl)) in
          elim (passed p x.0.answer (none-breaks h.calls h.walk.answers.1 x.0 x.1)
          (subst (λ n. Verdict n x.0.answer) x.2 (quiet x.0 x.1))) [
            | inl same ↦ absurd (apart s standing root p b same)
            | inr done ↦ done
          ]
