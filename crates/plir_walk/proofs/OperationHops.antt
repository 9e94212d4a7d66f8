-- Hops of a walk that calls at operations alone.
use Rattle.std.proofs.Common.{◌≡◌, ℕ, zero, suc, ◌+◌, Bool, true, false, Option, Some, None, inl, inr, Ok}
use Rattle.std.proofs.Common.{refl, sym, ap, subst, ◌∙◌}
use Rattle.std.proofs.lemmas.Bool.{false≢true, true≢false}
use Rattle.std.specs.declared.ops.ControlFlow.TheVariants.{Continue}
use Rattle.plir_core.specs.declared.ptr.IRNode.{IRNode}
use Rattle.plir_core.specs.declared.ptr.IRNode.TheVariants.{Operation, BasicBlock, Region}
use Rattle.plir_core.specs.Forest.{IsForest, Shape}
use Rattle.plir_walk.specs.declared.config.WalkConfig.{WalkConfig}
use Rattle.plir_walk.specs.declared.interruptible.WalkContinue.TheVariants.{Advance}
use Rattle.plir_walk.specs.Config.{direction_of, order_of}
use Rattle.plir_walk.specs.OperationSteps.{IsOperationHop, IsPassedBy, OperationHops, Sinks, SinksIf}
use Rattle.plir_walk.specs.OperationWalks.{AtEachNode, is_operation, OperationRelation}
use Rattle.plir_walk.specs.Step.{cursor_at, due_at, enter_or_leave, first_of, IsHop, IsNotDue, Run, taken}
use Rattle.plir_walk.specs.Walked.{IsLawful, Walked}
use Rattle.plir_walk.proofs.Groves.{Has-taken}
use Rattle.plir_walk.proofs.Hops.{one-more}
use Rattle.plir_walk.proofs.Measure.{head-Has}
use Rattle.plir_walk.proofs.Walking.{called-as, ended, Halfway, moved, passed, relimit, Walking}

module _ (w : WalkConfig) (s : Shape) where
  -- the first child is live
  pub first-live : IsForest s → (n k : IRNode) → first_of w s n ≡ Some k → s.live k ≡ true
  first-live f n k e =
      f.child_live n k (Has-taken (direction_of w n) (s.children n) k
      (head-Has (taken (direction_of w n) (s.children n)) k e))

  -- a way down of one step, and of more
  pub sink-step : (n : IRNode) (o : Option IRNode) → first_of w s n ≡ o → Sinks w s n (enter_or_leave o n)
  sink-step n o e root = (0, ap (λ v. Some (enter_or_leave v n)) (sym e))

  pub sink-more : (n k : IRNode) (c : IRNode × Bool) → first_of w s n ≡ Some k → is_operation k ≡ false → Sinks w s k c
      → Sinks w s n c
  sink-more n k c e p h root =
      one-more w s root (IsPassedBy w) n true k true (Some c) (ap (λ v. Some (enter_or_leave v n)) e) (inl p) (h root)

  -- a way down that is asked for, from a node that is known
  pub sinks-if : {b : Bool} {n m : IRNode} (o : IRNode × Bool) → b ≡ true → n ≡ m → Sinks w s m o → SinksIf b w s n o
  sinks-if {b} {n} {m} o e f h =
      subst (λ z. SinksIf z w s n o) (sym e) (subst (λ z. Sinks w s z o) (sym f) h)

  -- and what was come to where it was asked for
  pub sunk : {b en : Bool} {n : IRNode} (o : IRNode × Bool) → b ≡ true → o.1 ≡ en → SinksIf b w s n o →
      Sinks w s n (o.0, en)
  sunk {b} {en} {n} o e f h =
      subst (λ z. Sinks w s n (o.0, z)) f (let down : Sinks w s n o = subst (λ z. SinksIf z w s n o) e h in down)

  module _ (r : IRNode) where
    -- a run goes on from where another ends
    run-on : (k : ℕ) (n : IRNode) (below : Bool) (m : IRNode) (en : Bool) (o : Option (IRNode × Bool))
        → Run w s r (IsPassedBy w) k n below (Some (m, en)) → IsPassedBy w m en → OperationHops w s r m en o
        → OperationHops w s r n below o
    run-on zero n below m en o h p g = one-more w s r (IsPassedBy w) n below m en o (sym h) p g
    run-on (suc k) n below m en o h p g =
        one-more w s r (IsPassedBy w) n below h.0 h.1 o h.2 h.3 (run-on k h.0 h.1 m en o h.4 p g)

    -- a hop past nodes that aren't called is one past nodes where no operation is called
    wider : (k : ℕ) (n : IRNode) (below : Bool) (o : Option (IRNode × Bool)) → Run w s r (IsNotDue w) k n below o
        → Run w s r (IsPassedBy w) k n below o
    wider zero n below o h = h
    wider (suc k) n below o h = (h.0, h.1, h.2, inr h.3, wider k h.0 h.1 o h.4)

    pub hop-left : (n : IRNode) (a : Option (IRNode × Bool × Bool)) → IsHop w s r n false a
        → IsOperationHop w s r n false a
    hop-left n None h = (h.0, wider h.0 n false None h.1)
    hop-left n (Some c) h = ((h.0.0, wider h.0.0 n false (Some (c.0, c.1)) h.0.1), h.1)

    -- a way down is a hop
    pub hop-down : (n : IRNode) (c : IRNode × Bool) → Sinks w s n c → IsOperationHop w s r n true (Some (cursor_at w c))
    hop-down n c h = (h r, refl)

    -- a way down, and a hop from its end
    pub hop-sunk : (n m : IRNode) (a : Option (IRNode × Bool × Bool)) → Sinks w s n (m, false) → IsNotDue w m false
        → IsHop w s r m false a → IsOperationHop w s r n true a
    hop-sunk n m a down d h = go a (hop-left m a h)
      where
        go : (a : Option (IRNode × Bool × Bool)) → IsOperationHop w s r m false a → IsOperationHop w s r n true a
        go None h = run-on (down r).0 n true m false None (down r).1 (inr d) h
        go (Some c) h = (run-on (down r).0 n true m false (Some (c.0, c.1)) (down r).1 (inr d) h.0, h.1)

    -- what the code answers of a hop
    pub op-hop-at : (n : IRNode) (below : Bool) (a : Option (IRNode × Bool × Bool)) → IsOperationHop w s r n below a
        → (m : IRNode) (en due : Bool) → a ≡ Some (m, en, due)
        → OperationHops w s r n below (Some (m, en)) × (due ≡ due_at (order_of w m) en)
    op-hop-at n below a h m en due z =
        (let t : IRNode × Bool × Bool = (m, en, due) in subst (λ v. IsOperationHop w s r n below v) z h)

    pub op-hop-none : (n : IRNode) (below : Bool) (a : Option (IRNode × Bool × Bool)) → IsOperationHop w s r n below a
        → a ≡ None → OperationHops w s r n below None
    op-hop-none n below a h z = subst (λ v. IsOperationHop w s r n below v) z h

-- Where nothing is done at a region or a block, a walk comes past it.
module _ {C S B : Type 0} (look : C → Shape) (w : WalkConfig) (post : OperationRelation C S B) (c0 : C) (s0 : S)
    (r : IRNode) (lawful : IsLawful look r (AtEachNode post)) where
  abbrev To : ℕ → C → S → IRNode → Bool → Type 0
  To made e st c en = Walking look w (AtEachNode post) c0 s0 r made e st c en 0

  abbrev Half : ℕ → C → S → IRNode → Bool → Type 0
  Half made e st c below = Halfway look w (AtEachNode post) c0 s0 r made e st c below 0

  abbrev Ends : ℕ → C → S → Type 0
  Ends made e st = Walked look w (AtEachNode post) c0 s0 r made (Ok (Continue Advance)) e st

  nothing-done : (e : C) (st : S) (n : IRNode) → is_operation n ≡ false → AtEachNode post e st n (Continue Advance) e st
  nothing-done e st (Operation p) h = absurd (true≢false h)
  nothing-done e st (BasicBlock p) h = (refl, refl, refl)
  nothing-done e st (Region p) h = (refl, refl, refl)

  pass : (made : ℕ) (e : C) (st : S) (c : IRNode) (en : Bool) → To made e st c en → IsPassedBy w c en
      → (more : ℕ) × Half more e st c en
  pass made e st c en h p = by (due_at (order_of w c) en) refl p
    where
      by : (d : Bool) → due_at (order_of w c) en ≡ d → IsPassedBy w c en → (more : ℕ) × Half more e st c en
      by false d p = (made, passed look w (AtEachNode post) c0 s0 r made e st c en 0 h d)
      by true d (inl o) = (
        made + 1,
        called-as look w (AtEachNode post) c0 s0 r (made + 1) lawful e e e h.forest st st st c en en 1 0
            (Continue Advance) Advance (relimit look w (AtEachNode post) c0 s0 r made lawful 0 e st c en h) d
            (nothing-done e st c o) refl (λ z. cc) refl refl refl refl,
      )
      by true d (inr o) = absurd (false≢true (sym o ∙ d))

  pub moved-past : (k made : ℕ) (e : C) (st : S) (c : IRNode) (below : Bool) (m : IRNode) (en : Bool)
      → Half made e st c below → Run w (look e) r (IsPassedBy w) k c below (Some (m, en))
      → (more : ℕ) × To more e st m en
  moved-past zero made e st c below m en h z =
      (made, moved look w (AtEachNode post) c0 s0 r made e st c below 0 m en h (sym z))
  moved-past (suc k) made e st c below m en h z =
      let at = moved look w (AtEachNode post) c0 s0 r made e st c below 0 z.0 z.1 h z.2 in
      let half = pass made e st z.0 z.1 at z.3 in
      moved-past k half.0 e st z.0 z.1 m en half.1 z.4

  pub ended-past : (k made : ℕ) (e : C) (st : S) (c : IRNode) (below : Bool) → Half made e st c below
      → Run w (look e) r (IsPassedBy w) k c below None → (more : ℕ) × Ends more e st
  ended-past zero made e st c below h z =
      (made, ended look w (AtEachNode post) c0 s0 r made e st c below 0 h (sym z))
  ended-past (suc k) made e st c below h z =
      let at = moved look w (AtEachNode post) c0 s0 r made e st c below 0 z.0 z.1 h z.2 in
      let half = pass made e st z.0 z.1 at z.3 in
      ended-past k half.0 e st z.0 z.1 half.1 z.4
