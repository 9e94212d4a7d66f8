-- Laws of the calls of a walk, for the proofs of passes: what each call keeps is kept from entry to exit; what each
-- call establishes at its node, and later calls leave, holds at the exit of all nodes that the walk has called; and a
-- walk that was broken off leaves what the call left that broke it.
use Rattle.std.proofs.Common.{◌≢◌, List, [], ◌∷◌, ◌++◌, inl, inr, refl, subst}
use Rattle.std.specs.Borrow.{Bor, MutBor}
use Rattle.std.specs.Fn.{Shared}
use Rattle.std.specs.declared.ops.ControlFlow.{ControlFlow}
use Rattle.std.specs.declared.ops.ControlFlow.TheVariants.{Continue, Break}
use Rattle.plir_store.specs.Members.{Has}
use Rattle.plir_core.specs.declared.ptr.IRNode.{IRNode}
use Rattle.plir_walk.specs.declared.config.WalkConfig.{WalkConfig}
use Rattle.plir_walk.specs.declared.interruptible.WalkContinue.{WalkContinue}
use Rattle.plir_walk.specs.declared.interruptible.WalkContinue.TheVariants.{Skip}
use Rattle.plir_walk.specs.Calls.{Call, CallsBack, ReadsBack, Relation, Chain, nodes_of}
use Rattle.plir_walk.specs.Tree.{Tree, IsUnder}
use Rattle.plir_walk.specs.Walk.{IsDue, Answers, LastBreaks}

-- a call of a callback, by what it was handed and what it left
pub called-back : {F C S N R : Type 0} (g : Shared F (MutBor C × (MutBor S × (N × Unit {0})))
    (R × (MutBor C × (MutBor S × Unit {0})))) (f : F) {context context' : MutBor C} {state state' : MutBor S} {n : N}
    {a : R} → g.post f (context, (state, (n, tt))) (a, (context', (state', tt))) →
    CallsBack g f context.now state.now n a context'.now state'.now
called-back g f {context} {context'} {state} {state'} met = record {
  context = context;
  state = state;
  context_left = context';
  state_left = state';
  shows = (refl, refl);
  leaves = (refl, refl);
  met = met;
}

-- the same of a callback that only reads the context
pub read-back : {F C S N R : Type 0} (g : Shared F (Bor C × (MutBor S × (N × Unit {0}))) (R × (MutBor S × Unit {0})))
    (f : F) {context : Bor C} {state state' : MutBor S} {n : N} {a : R} →
    g.post f (context, (state, (n, tt))) (a, (state', tt)) →
    ReadsBack g f context.now state.now n a context.now state'.now
read-back g f {context} {state} {state'} met = record {
  context = context;
  state = state;
  state_left = state';
  stays = refl;
  shows = (refl, refl);
  leaves = refl;
  met = met;
}

-- A relation from one context and state to another composes: it holds of each with itself, and of what two steps make
-- of it if it holds of both.
pub record Composes {C S : Type 0} (keeps : C → S → C → S → Type 0) : Type 0 where
  pub itself : (c : C) (s : S) → keeps c s c s
  pub on : (c d e : C) (s t u : S) → keeps c s d t → keeps d t e u → keeps c s e u

module _ {C S B : Type 0} (post : Relation C S B) where
  -- each call keeps it
  abbrev pub IsKept : (keeps : C → S → C → S → Type 0) → Type 0
  IsKept keeps = (c c' : C) (s s' : S) (n : IRNode) (a : ControlFlow B WalkContinue) → post c s n a c' s' →
      keeps c s c' s'

  -- each call makes it hold of its node
  abbrev pub IsEstablished : (holds : C → IRNode → Type 0) → Type 0
  IsEstablished holds = (c c' : C) (s s' : S) (n : IRNode) (a : ControlFlow B WalkContinue) → post c s n a c' s' →
      holds c' n

  -- no call takes it from a node
  abbrev pub IsLeft : (holds : C → IRNode → Type 0) → Type 0
  IsLeft holds = (c c' : C) (s s' : S) (n : IRNode) (a : ControlFlow B WalkContinue) (m : IRNode) →
      post c s n a c' s' → holds c m → holds c' m

  -- each call of a chain is made as the relation tells
  pub chain-each : (c : C) (s : S) (calls : List (Call C S B)) (c' : C) (s' : S) → Chain post c s calls c' s' →
      (x : Call C S B) → Has calls x → post x.before x.state x.node x.answer x.after x.left
  chain-each c s [] c' s' h x i = absurd i
  chain-each c s (y ∷ ys) c' s' h x (inl e) = subst (λ z. post z.before z.state z.node z.answer z.after z.left) e h.2
  chain-each c s (y ∷ ys) c' s' h x (inr i) = chain-each y.after y.left ys c' s' h.3 x i

  -- calls in a relation are in each wider one
  pub chain-wider : (wider : Relation C S B) → ((c c' : C) (s s' : S) (n : IRNode) (a : ControlFlow B WalkContinue) →
      post c s n a c' s' → wider c s n a c' s') → (c c' : C) (s s' : S) (calls : List (Call C S B)) →
      Chain post c s calls c' s' → Chain wider c s calls c' s'
  chain-wider wider more c c' s s' [] h = h
  chain-wider wider more c c' s s' (x ∷ xs) h = (
    h.0,
    h.1,
    more x.before x.after x.state x.left x.node x.answer h.2,
    chain-wider wider more x.after c' x.left s' xs h.3,
  )

  -- What each call keeps holds from entry to exit: of all that a pass leaves as it was.
  pub kept_from_entry_to_exit : (keeps : C → S → C → S → Type 0) → Composes keeps → IsKept keeps →
      (c c' : C) (s s' : S) (calls : List (Call C S B)) → Chain post c s calls c' s' → keeps c s c' s'
  kept_from_entry_to_exit keeps p k c c' s s' [] h = rw (h.0, h.1) (p.itself c s)
  kept_from_entry_to_exit keeps p k c c' s s' (x ∷ xs) h =
      let one = k x.before x.after x.state x.left x.node x.answer h.2 in
      let first = subst (λ z. keeps z s x.after x.left) h.0 (subst (λ z. keeps x.before z x.after x.left) h.1 one) in
      p.on c x.after c' s x.left s' first (kept_from_entry_to_exit keeps p k x.after c' x.left s' xs h.3)

  -- the exit is what the last call leaves
  left_by_the_last : (front : List (Call C S B)) (end : Call C S B) (c c' : C) (s s' : S) →
      Chain post c s (front ++ end ∷ []) c' s' → post end.before end.state end.node end.answer c' s'
  left_by_the_last [] end c c' s s' h = rw (h.3.0, h.3.1) h.2
  left_by_the_last (x ∷ xs) end c c' s s' h = left_by_the_last xs end x.after c' x.left s' h.3

  -- A walk that was broken off leaves what the call left that broke it.
  pub left_by_the_break : (c c' : C) (s s' : S) (calls : List (Call C S B)) (b : B) → Chain post c s calls c' s' →
      LastBreaks calls b → (d : C) × (t : S) × (n : IRNode) × post d t n (Break b) c' s'
  left_by_the_break c c' s s' calls b h l =
      let end = l.1 in
      let made = left_by_the_last l.0 end c c' s s' (subst (λ xs. Chain post c s xs c' s') l.2 h) in
      (end.before, end.state, end.node, subst (λ a. post end.before end.state end.node a c' s') l.3 made)

  module _ (holds : C → IRNode → Type 0) (left : IsLeft holds) where
    -- what holds of a node still does after the calls
    pub still_holds : (c c' : C) (s s' : S) (calls : List (Call C S B)) → Chain post c s calls c' s' → (n : IRNode) →
        holds c n → holds c' n
    still_holds c c' s s' calls h n =
        kept_from_entry_to_exit (λ d t e u. holds d n → holds e n)
        (record { itself = λ d t x. x; on = λ d e f t u v g k x. k (g x) })
        (λ d d' t t' m a made x. left d d' t t' m a n made x) c c' s s' calls h

    module _ (established : IsEstablished holds) where
      -- it holds of each node that was called
      pub holds_of_called : (c c' : C) (s s' : S) (calls : List (Call C S B)) → Chain post c s calls c' s' →
          (n : IRNode) → Has (nodes_of calls) n → holds c' n
      holds_of_called c c' s s' [] h n i = absurd i
      holds_of_called c c' s s' (x ∷ xs) h n (inl e) =
          still_holds x.after c' x.left s' xs h.3 n (subst (λ z. holds x.after z) e
          (established x.before x.after x.state x.left x.node x.answer h.2))
      holds_of_called c c' s s' (x ∷ xs) h n (inr i) = holds_of_called x.after c' x.left s' xs h.3 n i

      -- Of a walk of the tree t that went to its end it holds of each node under the root that no skip shuts out. The
      -- tree is that of the exit where all levels are PreOrder, that of the entry where all are PostOrder, and both
      -- where calls keep the shape.
      pub holds_of_due : (w : WalkConfig) (t : Tree) (r : IRNode) (c c' : C) (s s' : S) (calls : List (Call C S B))
          (k : WalkContinue) → Chain post c s calls c' s' → Answers w t r calls (Continue k) → (n : IRNode) →
          IsDue w t r calls n → holds c' n
      holds_of_due w t r c c' s s' calls k h a n due = holds_of_called c c' s s' calls h n ((a.2 n).1 due)

      -- the same where no call skips: of each node under the root
      pub holds_under_root : (w : WalkConfig) (t : Tree) (r : IRNode) (c c' : C) (s s' : S) (calls : List (Call C S B))
          (k : WalkContinue) → Chain post c s calls c' s' → Answers w t r calls (Continue k) →
          ((x : Call C S B) → Has calls x → x.answer ≢ Continue Skip) → (n : IRNode) → IsUnder t r n → holds c' n
      holds_under_root w t r c c' s s' calls k h a never n under =
          holds_of_due w t r c c' s s' calls k h a n (under, λ shut. never shut.skipped.0 shut.skipped.1 shut.skipped.3)
