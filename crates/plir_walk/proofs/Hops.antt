-- A hop of a walk's cursor is a run of steps, from the second on at nodes where no call is due.
use Rattle.std.proofs.Common.{◌≡◌, ℕ, zero, suc, ◌<◌, ◌≤◌, Bool, true, false, Option, Some, None, ◌⊎◌, inl, inr}
use Rattle.std.proofs.Common.{refl, sym, ap, subst, ◌∙◌, arith, option_map}
use Rattle.std.proofs.lemmas.Option.{same_Some, none-some}
use Rattle.plir_core.specs.declared.ptr.IRNode.{IRNode}
use Rattle.plir_core.specs.Forest.{IsForest, Shape}
use Rattle.plir_walk.specs.declared.config.Order.{Order}
use Rattle.plir_walk.specs.declared.config.Order.TheVariants.{PostOrder, PreOrder}
use Rattle.plir_walk.specs.declared.config.WalkConfig.{WalkConfig}
use Rattle.plir_walk.specs.declared.interruptible.WalkContinue.{WalkContinue}
use Rattle.plir_walk.specs.declared.interruptible.WalkContinue.TheVariants.{Advance, Skip}
use Rattle.plir_walk.specs.Config.{direction_of, order_of}
use Rattle.plir_walk.specs.Step.{after, cursor_at, due_at, enter_or_leave, entered, entered_by, first_of, goes_on}
use Rattle.plir_walk.specs.Step.{next_of}
use Rattle.plir_walk.specs.Step.{step_of}
use Rattle.plir_walk.specs.Step.{taken, Hops, IsHop, IsNotDue, Run, Runs}
use Rattle.plir_walk.specs.Tree.{same}
use Rattle.plir_walk.proofs.Groves.{Has-taken}
use Rattle.plir_walk.proofs.Measure.{after-Has, part, size_of}
use Rattle.plir_walk.proofs.Measure as measure
use Rattle.plir_walk.proofs.Remaining.{left_at, steps-children}
use Rattle.plir_walk.proofs.Remaining as remaining

module _ (w : WalkConfig) (s : Shape) (r : IRNode) where
  -- a run goes on from a node that is passed by
  pub one-more : (P : IRNode → Bool → Type 0) (n : IRNode) (below : Bool) (m : IRNode) (en : Bool)
      (o : Option (IRNode × Bool))
      → step_of w s r n below ≡ Some (m, en) → P m en → Runs w s r P m en o → Runs w s r P n below o
  one-more P n below m en o e d h = (suc h.0, (m, en, e, d, h.1))

  -- a hop that enters a node, or its first child
  enter-hops : (n k : IRNode) (o : Order) → order_of w k ≡ o → step_of w s r n false ≡ Some (k, true)
      → Hops w s r n false (Some (entered_by (first_of w s k) o k))
  enter-hops n k PreOrder q e = (0, sym e)
  enter-hops n k PostOrder q e = (1, (k, true, e, ap (λ v. due_at v true) q, refl))

  -- a step that leaves a node, which is not the root
  pub left-is : (n : IRNode) (nx up : Option IRNode) → same n r ≡ false → next_of w s n ≡ nx → s.parent n ≡ up
      → step_of w s r n false ≡ option_map (λ a. enter_or_leave nx a) up
  left-is n nx up d p q = rw (d, p, q) refl

  -- what has a next sibling has a parent
  next-parent : (n k : IRNode) → next_of w s n ≡ Some k → (a : IRNode) × (s.parent n ≡ Some a)
  next-parent n k e = go (s.parent n) refl
    where
      go : (up : Option IRNode) → s.parent n ≡ up → (a : IRNode) × (s.parent n ≡ Some a)
      go None q = absurd (let z : next_of w s n ≡ None = (rw q refl) in none-some k (sym z ∙ e))
      go (Some a) q = (a, q)

  -- the hops that leave a node: past the root, to the next sibling, and to the parent
  pub leave-root : (n : IRNode) → same n r ≡ true → Hops w s r n false None
  leave-root n d = (0, (let z : step_of w s r n false ≡ None = (rw d refl) in sym z))

  pub leave-alone : (n : IRNode) → same n r ≡ false → s.parent n ≡ None → Hops w s r n false None
  leave-alone n d q = (0, sym (left-is n (next_of w s n) None d refl q))

  pub leave-next : (n : IRNode) (a : Option (IRNode × Bool × Bool)) (c : IRNode × Bool × Bool) → same n r ≡ false
      → a ≡ option_map (cursor_at w) (option_map (entered w s) (next_of w s n)) → a ≡ Some c → IsHop w s r n false
      (Some c)
  leave-next n a c d e z = go (next_of w s n) refl (sym z ∙ e)
    where
      go : (nx : Option IRNode) → next_of w s n ≡ nx → Some c ≡ option_map (cursor_at w) (option_map (entered w s) nx)
          → IsHop w s r n false (Some c)
      go None q x = absurd (none-some c (sym x))
      go (Some k) q x =
          let up = next-parent n k q in
          let step : step_of w s r n false ≡ Some (k, true) = left-is n (Some k) (Some up.0) d q up.1 in
          let y : c ≡ cursor_at w (entered w s k) = same_Some c (cursor_at w (entered w s k)) x in
          subst (λ v. IsHop w s r n false (Some v)) (sym y) (enter-hops n k (order_of w k) refl step, refl)

  leave-up : (n a : IRNode) → same n r ≡ false → next_of w s n ≡ None → s.parent n ≡ Some a
      → step_of w s r n false ≡ Some (a, false)
  leave-up n a d p q = left-is n None (Some a) d p q

  -- none entered behind a node: it has no next sibling
  none-next : (n : IRNode) (a : Option (IRNode × Bool × Bool))
      → a ≡ option_map (cursor_at w) (option_map (entered w s) (next_of w s n)) → a ≡ None → next_of w s n ≡ None
  none-next n a e z = go (next_of w s n) refl (sym z ∙ e)
    where
      go : (nx : Option IRNode) → next_of w s n ≡ nx → None ≡ option_map (cursor_at w) (option_map (entered w s) nx)
          → next_of w s n ≡ None
      go None q x = q
      go (Some k) q x = absurd (none-some (cursor_at w (entered w s k)) x)

  -- a node that is not the root, where none was entered behind it, is left for its parent
  pub left-up : (n a : IRNode) (o : Option (IRNode × Bool × Bool))
      → o ≡ option_map (cursor_at w) (option_map (entered w s) (next_of w s n)) → o ≡ None → same n r ≡ false
      → s.parent n ≡ Some a → step_of w s r n false ≡ Some (a, false)
  left-up n a o e z apart up = leave-up n a apart (none-next n o e z) up

  -- a hop from further up is one from further down
  pub climbed : (n m : IRNode) → ((o : Option (IRNode × Bool)) → Hops w s r m false o → Hops w s r n false o)
      → (a : Option (IRNode × Bool × Bool)) → IsHop w s r m false a → IsHop w s r n false a
  climbed n m up None h = up None h
  climbed n m up (Some c) h = (up (Some (c.0, c.1)) h.0, h.1)

  -- the hops that go below a node: to its first child, or past it
  pub sink-child : (n : IRNode) (f : Option IRNode) → first_of w s n ≡ f → Hops w s r n true (Some (enter_or_leave f n))
  sink-child n f e = (0, ap (λ v. Some (enter_or_leave v n)) (sym e))

  pub sink-past : (n : IRNode) → first_of w s n ≡ None → IsNotDue w n false → (a : Option (IRNode × Bool × Bool))
      → IsHop w s r n false a → IsHop w s r n true a
  sink-past n e q a h = go a h
    where
      past : (o : Option (IRNode × Bool)) → Hops w s r n false o → Hops w s r n true o
      past o h = one-more (IsNotDue w) n true n false o (ap (λ v. Some (enter_or_leave v n)) e) q h

      go : (a : Option (IRNode × Bool × Bool)) → IsHop w s r n false a → IsHop w s r n true a
      go None h = past None h
      go (Some c) h = (past (Some (c.0, c.1)) h.0, h.1)

  -- what the code answers of a hop
  pub hop-at : (n : IRNode) (below : Bool) (a : Option (IRNode × Bool × Bool)) → IsHop w s r n below a
      → (m : IRNode) (en due : Bool) → a ≡ Some (m, en, due)
      → Hops w s r n below (Some (m, en)) × (due ≡ due_at (order_of w m) en)
  hop-at n below a h m en due z = (let t : IRNode × Bool × Bool = (m, en, due) in subst
      (λ v. IsHop w s r n below v) z h)

  pub hop-none : (n : IRNode) (below : Bool) (a : Option (IRNode × Bool × Bool)) → IsHop w s r n below a → a ≡ None
      → Hops w s r n below None
  hop-none n below a h z = subst (λ v. IsHop w s r n below v) z h

module _ (w : WalkConfig) (s : Shape) (f : IsForest s) where
  -- the next sibling is live
  pub next-live : (n k : IRNode) → next_of w s n ≡ Some k → s.live k ≡ true
  next-live n k e = go (s.parent n) refl
    where
      go : (o : Option IRNode) → s.parent n ≡ o → s.live k ≡ true
      go None q = absurd (let z : next_of w s n ≡ None = (rw q refl) in none-some k (sym z ∙ e))
      go (Some a) q =
          let z : next_of w s n ≡ after n (taken (direction_of w a) (s.children a)) = (rw q refl) in
          let h = after-Has (taken (direction_of w a) (s.children a)) n k (sym z ∙ e) in
          f.child_live a k (Has-taken (direction_of w a) (s.children a) k h)

  module _ (r : IRNode) where
    -- less remains to be done behind a run
    pub run-left : (P : IRNode → Bool → Type 0) (k : ℕ) (n : IRNode) (below : Bool) (m : IRNode) (en : Bool)
        → Run w s r P k n below (Some (m, en)) → left_at w s m en < left_at w s n below
    run-left P zero n below m en h = remaining.step-smaller w s f r n below m en (sym h)
    run-left P (suc k) n below m en h =
        let one = remaining.step-smaller w s f r n below h.0 h.1 h.2 in
        let more = run-left P k h.0 h.1 m en h.4 in
        omega (arith, one, more)

    left-below : (n : IRNode) (en below : Bool) → (below ≡ en) ⊎ (below ≡ false) → left_at w s n below ≤ left_at w s n
        en
    left-below n true true h = omega arith
    left-below n false false h = omega arith
    left-below n true false h = (let k = steps-children w s f n in omega (arith, k))
    left-below n false true h = elim h [ inl e ↦ absurd (diff e) | inr e ↦ absurd (diff e) ]
      where
        diff : true ≡ false → ⊥
        diff e = cc

    pub hops-left : (P : IRNode → Bool → Type 0) (n : IRNode) (en below : Bool) (m : IRNode) (en' : Bool)
        → (below ≡ en) ⊎ (below ≡ false) → Runs w s r P n below (Some (m, en')) → left_at w s m en' < left_at w s n en
    hops-left P n en below m en' b h =
        let one = left-below n en below b in
        let more = run-left P h.0 n below m en' h.1 in
        omega (arith, one, more)

    -- and so where the run begins behind a call with an answer
    pub answer-left : (P : IRNode → Bool → Type 0) (n : IRNode) (en : Bool) (k : WalkContinue) (m : IRNode) (en' : Bool)
        → Runs w s r P n (goes_on en k) (Some (m, en')) → left_at w s m en' < left_at w s n en
    answer-left P n en Advance m en' h = hops-left P n en en m en' (inl refl) h
    answer-left P n en Skip m en' h = hops-left P n en false m en' (inr refl) h

    -- and so in a run from a node where no call is due
    pub run-part : (k : ℕ) (n : IRNode) (below : Bool) (m : IRNode) (en : Bool) → due_at (order_of w n) below ≡ false
        → Run w s r (IsNotDue w) k n below (Some (m, en)) → part w s m en < part w s n below
    run-part zero n below m en d h = measure.step-smaller w s f r n below (order_of w n) m en refl d (sym h)
    run-part (suc k) n below m en d h =
        let one = measure.step-smaller w s f r n below (order_of w n) h.0 h.1 refl d h.2 in
        let more = run-part k h.0 h.1 m en h.3 h.4 in
        omega (arith, one, more)

-- a run with no call, over the values that a loop has after its branches
pub run-smaller-as : {C : Type 0} (look : C → Shape) (w : WalkConfig) (e e'' : C) (f : IsForest (look e''))
    (r c : IRNode)
    (en below : Bool) (n : IRNode) (en' : Bool) (left left' : ℕ) → due_at (order_of w c) en ≡ false → e'' ≡ e → left' ≡
    left
    → below ≡ en → (k : ℕ) → Run w (look e'') r (IsNotDue w) k c below (Some (n, en'))
    → size_of w (look e'') left' n en' < size_of w (look e) left c en
run-smaller-as look w e e'' f r c en below n en' left left' d pe pl pb k z =
    let run = subst (λ v. Run w (look e'') r (IsNotDue w) k c v (Some (n, en'))) pb z in
    let one : part w (look e'') n en' < part w (look e'') c en = run-part w (look e'') f r k c en n en' d run in
    let size : size_of w (look e'') left' n en' < size_of w (look e'') left c en = omega (arith, one, pl) in
    subst (λ v. size_of w (look e'') left' n en' < size_of w (look v) left c en) pe size
