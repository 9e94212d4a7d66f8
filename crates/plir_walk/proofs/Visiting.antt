-- What a visit of the cursor's node makes of a walk, and where the walk goes on from there.
use Rattle.std.proofs.Common.{◌≡◌, ℕ, zero, suc, ◌+◌, ◌-◌, ◌<◌, Bool, true, false, Option, Some, None, ◌⊎◌, inl, inr}
use Rattle.std.proofs.Common.{Ok}
use Rattle.std.proofs.Common.{refl, sym, ap, subst, ◌∙◌, arith}
use Rattle.std.specs.declared.ops.ControlFlow.{ControlFlow}
use Rattle.std.specs.declared.ops.ControlFlow.TheVariants.{Break, Continue}
use Rattle.plir_walk.specs.Calls.{Relation}
use Rattle.plir_walk.specs.Config.{order_of}
use Rattle.plir_walk.specs.Step.{due_at, goes_on, Hops, IsNotDue, IsVisited, Run}
use Rattle.plir_walk.specs.Walked.{IsLawful, Walked}
use Rattle.plir_walk.specs.declared.config.WalkConfig.{WalkConfig}
use Rattle.plir_walk.specs.declared.interruptible.WalkContinue.{WalkContinue}
use Rattle.plir_walk.specs.declared.interruptible.WalkContinue.TheVariants.{Advance, Skip}
use Rattle.plir_core.specs.declared.ptr.IRNode.{IRNode}
use Rattle.plir_core.specs.Forest.{IsForest, Shape}
use Rattle.plir_walk.specs.Lawful.{StandsUnder}
use Rattle.plir_walk.proofs.Hops.{hops-left, run-smaller-as}
use Rattle.plir_walk.proofs.Walking.{Walking, Halfway, moved, ended, passed, called-as, passed-as, broken-as, relimit}
use Rattle.plir_walk.proofs.Walking.{walking-under}
use Rattle.plir_walk.proofs.Measure.{size_of, called-smaller}
use Rattle.plir_walk.proofs.Remaining.{left_at}

-- where a call is due, one more may be made, and one less after it; else as many
abbrev pub IsCounted : Bool → ℕ → ℕ → Type 0
IsCounted true left left' = (left ≡ 0 → ⊥) × (left' ≡ left - 1)
IsCounted false left left' = left' ≡ left

-- a walk that was not called goes on as if it had been told to
no-call : {B : Type 0} (a : ControlFlow B WalkContinue) (k : WalkContinue) (en : Bool) → a ≡ Continue Advance
    → a ≡ Continue k → goes_on en k ≡ en
no-call a k en p q =
    let z = sym p ∙ q in
    let x : Advance ≡ k = cc in
    ap (goes_on en) (sym x)

module _ {C S B : Type 0} (look : C → Shape) (w : WalkConfig) (post : Relation C S B) (c0 : C) (s0 : S) (r : IRNode)
  where
    -- the walk has come to a cursor; it was broken off; it was half made at the node; it has ended
    abbrev To : ℕ → C → S → IRNode → Bool → ℕ → Type 0
    To limit e st c en left = Walking look w post c0 s0 r limit e st c en left

    abbrev Half : ℕ → C → S → IRNode → Bool → ℕ → Type 0
    Half limit e st c below left = Halfway look w post c0 s0 r limit e st c below left

    abbrev Ends : ℕ → ControlFlow B WalkContinue → C → S → Type 0
    Ends limit a e st = Walked look w post c0 s0 r limit (Ok a) e st

    -- A cursor, to which a walk with a limit has come.
    pub record Cursor (limit : ℕ) (e : C) (st : S) (c : IRNode) (en : Bool) (left : ℕ) : Type 0 where
      pub walking : To limit e st c en left
      pub stands : StandsUnder (look e) r c

    pub cursor : (limit : ℕ) (e : C) (st : S) (c : IRNode) (en : Bool) (left : ℕ) → To limit e st c en left
        → Cursor limit e st c en left
    cursor limit e st c en left h = record {
      walking = h;
      stands = walking-under look w post c0 s0 r limit e st c en left h;
    }

    -- a run of steps leads to another cursor, or past the root
    run-moved : (limit : ℕ) (e : C) (st : S) (left k : ℕ) (c : IRNode) (below : Bool) (m : IRNode) (en : Bool)
        → Half limit e st c below left → Run w (look e) r (IsNotDue w) k c below (Some (m, en)) → To limit e st m en
        left
    run-moved limit e st left zero c below m en h z = moved look w post c0 s0 r limit e st c below left m en h (sym z)
    run-moved limit e st left (suc k) c below m en h z =
        let at = moved look w post c0 s0 r limit e st c below left z.0 z.1 h z.2 in
        let half = passed look w post c0 s0 r limit e st z.0 z.1 left at z.3 in
        run-moved limit e st left k z.0 z.1 m en half z.4

    run-ended : (limit : ℕ) (e : C) (st : S) (left k : ℕ) (c : IRNode) (below : Bool)
        → Half limit e st c below left → Run w (look e) r (IsNotDue w) k c below None → Ends limit (Continue Advance) e
        st
    run-ended limit e st left zero c below h z = ended look w post c0 s0 r limit e st c below left h (sym z)
    run-ended limit e st left (suc k) c below h z =
        let at = moved look w post c0 s0 r limit e st c below left z.0 z.1 h z.2 in
        let half = passed look w post c0 s0 r limit e st z.0 z.1 left at z.3 in
        run-ended limit e st left k z.0 z.1 half z.4

    module _ (lawful : IsLawful look r post) (limit : ℕ) (e e' : C) (st st' : S) (c : IRNode) (en due : Bool)
        (left left' : ℕ) (a : ControlFlow B WalkContinue) (h : Cursor limit e st c en left)
        (d : due ≡ due_at (order_of w c) en) (n : IsCounted due left left')
        (v : IsVisited look post e st c due a e' st') where
      -- what follows if the call was due, and if it wasn't
      abbrev By : Bool → Type 0 → Type 0
      By b X = b ≡ due_at (order_of w c) en → IsCounted b left left' → IsVisited look post e st c b a e' st' → X

      -- the call broke the walk off
      pub visit-broke : (b : B) → a ≡ Break b → Ends limit (Break b) e' st'
      visit-broke b q = by due d n v
        where
          by : (due : Bool) → By due (Ends limit (Break b) e' st')
          by true d n v =
              broken-as look w post c0 s0 r limit lawful e e' v.1 st st' c en left a b h.walking (sym d) v.0 q n.0
          by false d n v = absurd (let z : Continue Advance ≡ Break b = sym v.0 ∙ q in cc)

      module _ (k : WalkContinue) (q : a ≡ Continue k) (below : Bool) (g : below ≡ goes_on en k) where
        -- half of it is done
        pub halfway : Half limit e' st' c below left'
        halfway = by due d n v
          where
            by : (due : Bool) → By due (Half limit e' st' c below left')
            by true d n v =
                called-as look w post c0 s0 r limit lawful e e' e' v.1 st st' st' c en below left left' a k
                h.walking (sym d) v.0 q n.0 refl refl n.1 g
            by false d n v =
                passed-as look w post c0 s0 r limit lawful e e' st st' c en below left left'
                h.walking (sym d) v.1 v.2 n (g ∙ no-call a k en v.0 q)

        module _ (o : Option (IRNode × Bool)) (s : Hops w (look e') r c below o) where
          -- the walk moves on to another cursor
          pub visit-moved : (m : IRNode) (en' : Bool) → o ≡ Some (m, en') → Cursor limit e' st' m en' left'
          visit-moved m en' z =
              let run = subst (λ v. Run w (look e') r (IsNotDue w) s.0 c below v) z s.1 in
              cursor limit e' st' m en' left' (run-moved limit e' st' left' s.0 c below m en' halfway run)

          -- the root was left
          pub visit-ended : o ≡ None → Ends limit (Continue Advance) e' st'
          visit-ended z =
              run-ended limit e' st' left' s.0 c below halfway
              (subst (λ v. Run w (look e') r (IsNotDue w) s.0 c below v) z s.1)

          -- less remains to be done
          pub visit-smaller : (m : IRNode) (en' : Bool) → o ≡ Some (m, en')
              → size_of w (look e') left' m en' < size_of w (look e) left c en
          visit-smaller m en' z = by due d n v
            where
              f : IsForest (look e')
              f = halfway.forest

              by : (due : Bool) → By due (size_of w (look e') left' m en' < size_of w (look e) left c en)
              by true d n v =
                  let p = n.0 in
                  let t = n.1 in
                  called-smaller w (look e) (look e') f c m en en' left left' (omega (arith, p, t))
              by false d n v =
                  run-smaller-as look w e e' f r c en below m en' left left' (sym d) v.1 n
                  (g ∙ no-call a k en v.0 q) s.0 (subst (λ u. Run w (look e') r (IsNotDue w) s.0 c below u) z s.1)

          -- the same over one context, where no call is counted
          pub read-smaller : IsForest (look e') → (m : IRNode) (en' : Bool) → o ≡ Some (m, en')
              → left_at w (look e') m en' < left_at w (look e') c en
          read-smaller f m en' z =
              hops-left w (look e') f r (IsNotDue w) c en below m en' (by k g)
              (s.0, subst (λ v. Run w (look e') r (IsNotDue w) s.0 c below v) z s.1)
            where
              by : (k : WalkContinue) → below ≡ goes_on en k → (below ≡ en) ⊎ (below ≡ false)
              by Advance g = inl g
              by Skip g = inr g

-- A cursor over one context, where a walk has made some calls, as many as its limit.
module _ {C S B : Type 0} (look : C → Shape) (w : WalkConfig) (post : Relation C S B) (e : C) (s0 : S) (r : IRNode)
    (lawful : IsLawful look r post) where
  abbrev pub more : (made : ℕ) (due : Bool) → ℕ
  more made true = made + 1
  more made false = made

  -- one more call may be made where it is due
  pub allowed : (made : ℕ) (due : Bool) (st : S) (c : IRNode) (en : Bool)
      → Cursor look w post e s0 r made e st c en 0
      → (left : ℕ) × (Cursor look w post e s0 r (more made due) e st c en left × IsCounted due left 0)
  allowed made true st c en h =
      let m = relimit look w post e s0 r made lawful 0 e st c en h.walking in
      (1, (cursor look w post e s0 r (made + 1) e st c en 1 m, (λ z. cc, refl)))
  allowed made false st c en h = (0, (h, refl))
