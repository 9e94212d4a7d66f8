-- Walks whose callback always advances.
use Rattle.std.proofs.Common.{◌≡◌, ℕ, List, [], ◌∷◌, ◌++◌, Ok, Err, sym, ap, subst, ◌∙◌}
use Rattle.std.specs.Borrow.{Bor, MutBor}
use Rattle.std.specs.Fn.{Shared}
use Rattle.std.specs.declared.ops.ControlFlow.{ControlFlow}
use Rattle.std.specs.declared.ops.ControlFlow.TheVariants.{Break, Continue}
use Rattle.plir_walk.specs.AsRead.{tree_read}
use Rattle.plir_walk.specs.Calls.{Advancing, Call, CallsBack, Chain, ReadsBack, Relation}
use Rattle.plir_walk.specs.Tree.{Tree}
use Rattle.plir_walk.specs.Walk.{Answers, IsWalkWithin}
use Rattle.plir_walk.specs.Walked.{IsCallUnder, KeepsShape, Walked, WalkedOver}
use Rattle.plir_walk.specs.declared.config.WalkConfig.{WalkConfig}
use Rattle.plir_walk.specs.declared.interruptible.WalkContinue.{WalkContinue}
use Rattle.plir_walk.specs.declared.interruptible.WalkContinue.TheVariants.{Advance}
use Rattle.plir_walk.specs.declared.limit.CallLimit.{CallLimit}
use Rattle.plir_core.specs.declared.ptr.IRNode.{IRNode}
use Rattle.plir_core.specs.Forest.{Shape}

-- a wider relation
pub Chain-map : {C S B : Type 0} (P Q : Relation C S B) → ((c : C) (s : S) (n : IRNode) (a : ControlFlow B WalkContinue)
    (c' : C) (s' : S) → P c s n a c' s' → Q c s n a c' s')
    → (c : C) (s : S) (xs : List (Call C S B)) (c' : C) (s' : S) → Chain P c s xs c' s' → Chain Q c s xs c' s'
Chain-map P Q f c s [] c' s' h = h
Chain-map P Q f c s (x ∷ xs) c' s' h = (
  h.0,
  h.1,
  f x.before x.state x.node x.answer x.after x.left h.2,
  Chain-map P Q f
      x.after x.left xs c' s' h.3,
)

-- what each call keeps holds of the last one
pub Chain-last : {C S B : Type 0} (P : Relation C S B) (c : C) (s : S) (front : List (Call C S B)) (x : Call C S B)
    (c' : C) (s' : S) → Chain P c s (front ++ x ∷ []) c' s' → P x.before x.state x.node x.answer x.after x.left
Chain-last P c s [] x c' s' h = h.2
Chain-last P c s (y ∷ front) x c' s' h = Chain-last P y.after y.left front x c' s' h.3

module _ {C S : Type 0} (look : C → Shape) (w : WalkConfig) (post : Relation C S (Unit {0}))
    (plain : C → S → IRNode → Unit {0} → C → S → Type 0)
    (advances : (c : C) (s : S) (n : IRNode) (a : ControlFlow (Unit {0}) WalkContinue) (c' : C) (s' : S) → post c s n a
    c' s' → Advancing plain c s n a c' s') where
  -- a call that advances
  pub call-advancing : (r : IRNode) (c : C) (s : S) (n : IRNode) (a : ControlFlow (Unit {0}) WalkContinue) (c' : C)
      (s' : S) → IsCallUnder look r post c s n a c' s' → IsCallUnder look r (Advancing plain) c s n a c' s'
  call-advancing r c s n a c' s' p = record {
    stands = p.stands;
    leaves = p.leaves;
    made = advances c s n a c' s' p.made;
  }

  pub always : (r : IRNode) (c : C) (s : S) (xs : List (Call C S (Unit {0}))) (c' : C) (s' : S) → Chain
      (IsCallUnder look r post) c s xs c' s' → Chain (IsCallUnder look r (Advancing plain)) c s xs c' s'
  always r c s xs c' s' h = Chain-map (IsCallUnder look r post) (IsCallUnder look r (Advancing plain))
      (call-advancing r) c s xs c' s' h

  -- so the answer is to advance
  pub answer-is : (t : Tree) (r : IRNode) (c : C) (s : S) (xs : List (Call C S (Unit {0}))) (c' : C) (s' : S)
      (a : ControlFlow (Unit {0}) WalkContinue) → Chain (IsCallUnder look r post) c s xs c' s' → Answers w t r xs a → a
      ≡ Continue Advance
  answer-is t r c s xs c' s' (Continue k) h p = ap Continue p.0
  answer-is t r c s xs c' s' (Break b) h p =
      let ch = subst (λ (v : List (Call C S (Unit {0}))). Chain (IsCallUnder look r post) c s v c' s') p.0.2 h in
      let last = Chain-last (IsCallUnder look r post) c s p.0.0 p.0.1 c' s' ch in
      let e = sym p.0.3 ∙ (advances p.0.1.before p.0.1.state p.0.1.node p.0.1.answer p.0.1.after p.0.1.left last.made).0
      in
      absurd (let y : ⊥ = cc e in y)

  pub over-advancing : (c : C) (s : S) (r : IRNode) (a : ControlFlow (Unit {0}) WalkContinue) (s' : S) → WalkedOver look
      w post c s r a s' → WalkedOver look w (Advancing plain) c s r (Continue Advance) s'
  over-advancing c s r a s' h =
      let e = answer-is (look c).children r c s h.calls c s' a h.chain h.walk.answers in
      record {
        calls = h.calls;
        chain = always r c s h.calls c s' h.chain;
        walk = record {
          in_order = h.walk.in_order;
          answers = subst
              (λ (v : ControlFlow (Unit {0}) WalkContinue). Answers w (look c).children r h.calls v) e h.walk.answers;
        };
      }

  pub within-answer : (t : Tree) (r : IRNode) (limit : ℕ) (c : C) (s : S) (xs : List (Call C S (Unit {0}))) (c' : C)
      (s' : S) (a : ControlFlow (Unit {0}) WalkContinue) → Chain (IsCallUnder look r post) c s xs c' s'
      → IsWalkWithin w t r limit xs (Ok a) → IsWalkWithin w t r limit xs (Ok (Continue Advance))
  within-answer t r limit c s xs c' s' a h k = record {
    in_order = k.in_order;
    within = k.within;
    answers = subst
        (λ (v : ControlFlow (Unit {0}) WalkContinue). Answers w t r xs v) (answer-is t r c s xs c' s' a h k.answers)
        k.answers;
  }

  pub keeps : (r : IRNode) → KeepsShape look r (Advancing plain) → KeepsShape look r post
  keeps r k d t n a d' t' p = k d t n a d' t' (call-advancing r d t n a d' t' p)

  pub ok-advancing : (c : C) (s : S) (r : IRNode) (limit : ℕ) (a : ControlFlow (Unit {0}) WalkContinue) (c' : C)
      (s' : S) → Walked look w post c s r limit (Ok a) c' s' → Walked look w (Advancing plain) c s r limit
      (Ok (Continue Advance)) c' s'
  ok-advancing c s r limit a c' s' h =
      let to = λ (t : Tree) (k : IsWalkWithin w t r limit h.calls (Ok a)). within-answer t r limit c s h.calls c' s' a
      h.chain k in
      record {
        calls = h.calls;
        chain = always r c s h.calls c' s' h.chain;
        as_read = to (tree_read look w h.calls c') h.as_read;
        at_exit = λ all. to (look c').children (h.at_exit all);
        at_entry = λ all. to (look c).children (h.at_entry all);
        unchanged = λ k. to (look c).children (h.unchanged (keeps r k));
      }

  pub err-advancing : (c : C) (s : S) (r : IRNode) (limit : ℕ) (x : CallLimit) (c' : C) (s' : S) → Walked look w post c
      s r limit (Err x) c' s' → Walked look w (Advancing plain) c s r limit (Err x) c' s'
  err-advancing c s r limit x c' s' h = record {
    calls = h.calls;
    chain = always r c s h.calls c' s' h.chain;
    as_read = h.as_read;
    at_exit = h.at_exit;
    at_entry = h.at_entry;
    unchanged = λ k. h.unchanged (keeps r k);
  }

-- a call that a wrapper passes on
pub reads-again : {F C S N : Type 0} (g : Shared F (Bor C × (MutBor S × (N × Unit {0})))
    (Unit {0} × (MutBor S × Unit {0}))) (f : F) {d d' e : C} {s s' t t' : S} {n : N}
    → d' ≡ d → (e ≡ d) × (t ≡ s) → t' ≡ s' → ReadsBack g f e t n tt e t' → ReadsBack g f d s n tt d' s'
reads-again g f stays shows leaves q = record {
  context = q.context;
  state = q.state;
  state_left = q.state_left;
  stays = stays;
  shows = (q.shows.0 ∙ shows.0, q.shows.1 ∙ shows.1);
  leaves = q.leaves ∙ leaves;
  met = q.met;
}

pub calls-again : {F C S N : Type 0} (g : Shared F (MutBor C × (MutBor S × (N × Unit {0})))
    (Unit {0} × (MutBor C × (MutBor S × Unit {0})))) (f : F) {d d' e e' : C} {s s' t t' : S} {n : N}
    → (e ≡ d) × (t ≡ s) → (e' ≡ d') × (t' ≡ s') → CallsBack g f e t n tt e' t' → CallsBack g f d s n tt d' s'
calls-again g f shows leaves q = record {
  context = q.context;
  state = q.state;
  context_left = q.context_left;
  state_left = q.state_left;
  shows = (q.shows.0 ∙ shows.0, q.shows.1 ∙ shows.1);
  leaves = (q.leaves.0 ∙ leaves.0, q.leaves.1 ∙ leaves.1);
  met = q.met;
}
