-- Laws of whole walks, for the proofs of passes: a walk of lawful calls is lawful at its root, which stays; a walk that
-- may make as many calls as a context has nodes is never at its limit; and what each call of a callback keeps of the
-- context, the walk does.
use Rattle.std.proofs.Common.{◌≡◌, ℕ, suc, ◌+◌, ◌≤◌, ◌^◌, arith, List, [], ◌∷◌, length, Result, Err, inl, inr, refl, ap}
use Rattle.std.proofs.Common.{sym, subst}
use Rattle.std.specs.Borrow.{MutBor}
use Rattle.std.specs.Fn.{Shared}
use Rattle.std.specs.declared.ops.ControlFlow.{ControlFlow}
use Rattle.plir_store.specs.Members.{Distinct}
use Rattle.plir_core.specs.declared.ptr.IRNode.{IRNode}
use Rattle.plir_core.specs.Forest.{look, Shape, IsForest}
use Rattle.plir_core.specs.Standing.{IsStanding}
use Rattle.plir_core.specs.ContextView.{ContextView, IsLive, children}
use Rattle.plir_walk.specs.declared.interruptible.WalkContinue.{WalkContinue}
use Rattle.plir_walk.specs.declared.limit.CallLimit.{CallLimit}
use Rattle.plir_walk.specs.declared.config.WalkConfig.{WalkConfig}
use Rattle.plir_walk.specs.Lists.{Pairs}
use Rattle.plir_walk.specs.Calls.{Advancing, Call, CallsBack, Relation, Chain, nodes_of}
use Rattle.plir_walk.specs.Tree.{NodeBefore}
use Rattle.plir_walk.specs.TreeLaws.{under-live}
use Rattle.plir_walk.specs.Walk.{IsWalkWithin}
use Rattle.plir_walk.specs.Config.{AllPre, AllPost}
use Rattle.plir_walk.specs.Walked.{Walked, IsCallUnder}
use Rattle.plir_walk.specs.Lawful.{Lawful}
use Rattle.plir_walk.specs.Laws.{BeforeOrders}
use Rattle.plir_walk.specs.LawfulChanges.{LawfulChanges}
use Rattle.plir_walk.specs.CallLaws.{kept_from_entry_to_exit}

pairs-distinct : {A : Type 0} (R : A → A → Type 0) (xs : List A) → ((a : A) → R a a → ⊥) → Pairs R xs → Distinct xs
pairs-distinct R [] i h = tt
pairs-distinct R (x ∷ xs) i h = (λ k. i x (h.0 x k), pairs-distinct R xs i h.1)

length-nodes : {C S B : Type 0} (calls : List (Call C S B)) → length (nodes_of calls) ≡ length calls
length-nodes [] = refl
length-nodes (x ∷ xs) = ap suc (length-nodes xs)

module _ {K A T : Type 0} where
  -- the walk of a tree that may make a call for each node that there can be makes them all
  pub never-at-limit : {S B : Type 0} (w : WalkConfig) (c : ContextView K A T) (r : IRNode) (limit : ℕ)
      (calls : List (Call (ContextView K A T) S B)) (x : CallLimit)
      → BeforeOrders → IsStanding c → IsLive c r → 2 ^ 32 ≤ limit + 1
      → IsWalkWithin w (children c) r limit calls (Err x) →
      ⊥
  never-at-limit w c r limit calls x orders stands live enough v =
      let once = pairs-distinct (NodeBefore w (children c) r) (nodes_of calls)
      (orders w (children c) r v.in_order.one_place).irreflexive v.in_order.increasing in
      let missed = v.answers.3 in
      let more = stands.measured.counted (missed.0 ∷ nodes_of calls) (missed.2, once) (λ n k. elim k [
        | inl e ↦ subst (IsLive c) e (under-live (look c) stands.forest r missed.0 live missed.1.0)
        | inr i ↦ under-live (look c) stands.forest r n live (v.in_order.under_root n i)
      ]) in
      let made = v.answers.0 in
      let same = length-nodes calls in
      let within = stands.within in
      let fits = stands.limit_fits in
      absurd (omega arith)

  -- a walk that is at its limit, told by an equation
  pub limit-at-exit : {S B : Type 0} {post : Relation (ContextView K A T) S B} (w : WalkConfig)
      (c c' : ContextView K A T)
      (s s' : S) (r : IRNode) (limit : ℕ) (answer : Result (ControlFlow B WalkContinue) CallLimit) (x : CallLimit)
      → answer ≡ Err x → AllPre w → (walked : Walked look w post c s r limit answer c' s') →
      IsWalkWithin w (children c') r limit walked.calls (Err x)
  limit-at-exit w c c' s s' r limit answer x e pre walked =
      subst (λ z. IsWalkWithin w (children c') r limit walked.calls z) e (walked.at_exit pre)

  pub limit-at-entry : {S B : Type 0} {post : Relation (ContextView K A T) S B} (w : WalkConfig)
      (c c' : ContextView K A T)
      (s s' : S) (r : IRNode) (limit : ℕ) (answer : Result (ControlFlow B WalkContinue) CallLimit) (x : CallLimit)
      → answer ≡ Err x → AllPost w → (walked : Walked look w post c s r limit answer c' s') →
      IsWalkWithin w (children c) r limit walked.calls (Err x)
  limit-at-entry w c c' s s' r limit answer x e post walked =
      subst (λ z. IsWalkWithin w (children c) r limit walked.calls z) e (walked.at_entry post)

  -- a walk of lawful calls is lawful at its root
  module _ {S B : Type 0} (own : A → List ℕ) (laws : LawfulChanges K A T own) (post : Relation (ContextView K A T) S B)
      (r : IRNode)
      (each : (c : ContextView K A T) (s : S) (n : IRNode) (a : ControlFlow B WalkContinue) (c' : ContextView K A T)
      (s' : S) →
      post c s n a c' s' → Lawful (look c) n (look c')) where
    abbrev call : Relation (ContextView K A T) S B
    call = IsCallUnder look r post

    abbrev Lasts : ContextView K A T → S → ContextView K A T → S → Type 0
    Lasts c s c' s' = IsForest (look c) → IsLive c r → IsForest (look c') × IsLive c' r × Lawful (look c) r (look c')

    pub walk-lasts : (c c' : ContextView K A T) (s s' : S) (calls : List (Call (ContextView K A T) S B))
        → IsForest (look c) →
        IsLive c r → Chain call c s calls c' s' → IsForest (look c') × IsLive c' r × Lawful (look c) r (look c')
    walk-lasts c c' s s' calls w l h =
        kept_from_entry_to_exit call Lasts
        (record {
          itself = λ d t w l. (w, l, laws.none d r);
          on = λ d e f t u v g k w l. (let a = g w l in let b = k a.0 a.1 in (b.0, b.1, laws.both d e f r w a.2 b.2));
        })
        (λ d d' t t' n a p w l.
        (let f = laws.above d d' n r w p.leaves l p.stands.under_root (each d t n a d' t' p.made) in
        (p.leaves, laws.stays d d' r w f l, f)))
        c c' s s' calls h w l

-- What holds of the context as a walk begins holds of it as the walk ends, if each call of the callback keeps it: this
-- is told by the callback's own clauses, of the context before the call and after it.
pub holds_over_walk : {F C S : Type 0} {look : C → Shape} {w : WalkConfig} {c c' : C} {s s' : S} {r : IRNode}
    {limit : ℕ} {answer : Result (ControlFlow (Unit {0}) WalkContinue) CallLimit} {f : F}
    {g : Shared F (MutBor C × (MutBor S × (IRNode × Unit {0}))) (Unit {0} × (MutBor C × (MutBor S × Unit {0})))}
    → (holds : C → Type 0) → Walked look w (Advancing (CallsBack g f)) c s r limit answer c' s'
    → ((d d' : MutBor C) (t t' : MutBor S) (n : IRNode) → g.post f (d, (t, (n, tt))) (tt, (d', (t', tt))) →
    holds d.now → holds d'.now) → holds c → holds c'
holds_over_walk {look} {c} {c'} {s} {s'} {r} {f} {g} holds walked each =
    kept_from_entry_to_exit (IsCallUnder look r (Advancing (CallsBack g f))) (λ d t e u. holds d → holds e)
    (record { itself = λ d t x. x; on = λ d e i t u v h k x. k (h x) })
    (λ d d' t t' n a p x.
    (let b = p.made.1 in
    subst holds b.leaves.0
    (each b.context b.context_left b.state b.state_left n b.met (subst holds (sym b.shows.0) x))))
    c c' s s' walked.calls walked.chain
