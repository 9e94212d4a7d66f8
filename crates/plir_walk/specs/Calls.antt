-- Calls of a callback, one after another.
use Rattle.std.specs.Prelude.{◌≡◌, ◌≢◌, List, [], ◌∷◌}
use Rattle.std.specs.Borrow.{Bor, MutBor}
use Rattle.std.specs.Fn.{Shared}
use Rattle.std.specs.declared.ops.ControlFlow.{ControlFlow}
use Rattle.std.specs.declared.ops.ControlFlow.TheVariants.{Continue, Break}
use Rattle.plir_walk.specs.declared.interruptible.WalkContinue.{WalkContinue}
use Rattle.plir_walk.specs.declared.interruptible.WalkContinue.TheVariants.{Advance}
use Rattle.plir_core.specs.declared.ptr.IRNode.{IRNode}

-- A call of f with the context c, the state s and the node n may answer a, and leave the context c' and the state s'.
pub record CallsBack {F C S N R : Type 0} (g : Shared F (MutBor C × (MutBor S × (N × Unit {0})))
    (R × (MutBor C × (MutBor S × Unit {0})))) (f : F) (c : C) (s : S) (n : N) (a : R) (c' : C) (s' : S) : Type 0 where
  pub context : MutBor C
  pub state : MutBor S
  pub context_left : MutBor C
  pub state_left : MutBor S
  pub shows : (context.now ≡ c) × (state.now ≡ s)
  pub leaves : (context_left.now ≡ c') × (state_left.now ≡ s')
  pub met : g.post f (context, (state, (n, tt))) (a, (context_left, (state_left, tt)))

-- The same of a callback that only reads the context, which so stays as it is.
pub record ReadsBack {F C S N R : Type 0} (g : Shared F (Bor C × (MutBor S × (N × Unit {0})))
    (R × (MutBor S × Unit {0}))) (f : F) (c : C) (s : S) (n : N) (a : R) (c' : C) (s' : S) : Type 0 where
  pub context : Bor C
  pub state : MutBor S
  pub state_left : MutBor S
  pub stays : c' ≡ c
  pub shows : (context.now ≡ c) × (state.now ≡ s)
  pub leaves : state_left.now ≡ s'
  pub met : g.post f (context, (state, (n, tt))) (a, (state_left, tt))

-- One call: the node, the context and the state before it, its answer, and the context and the state after it.
pub record Call (C S B : Type 0) : Type 0 where
  pub before : C
  pub state : S
  pub node : IRNode
  pub answer : ControlFlow B WalkContinue
  pub after : C
  pub left : S

-- What a callback may do: the context and the state before, the node, the answer, the context and the state after.
abbrev pub Relation : Type 0 → Type 0 → Type 0 → Type 1
Relation C S B = C → S → IRNode → ControlFlow B WalkContinue → C → S → Type 0

-- A callback that answers nothing always advances.
abbrev pub Advancing : {C S : Type 0} → (C → S → IRNode → Unit {0} → C → S → Type 0) → Relation C S (Unit {0})
Advancing post c s n a c' s' = (a ≡ Continue Advance) × post c s n tt c' s'

-- The first call begins at the entry, each next one where the last ended, and the exit is the end of the last, or the
-- entry, if there is none. Each call is in the callback's relation.
abbrev pub Chain : {C S B : Type 0} → Relation C S B → C → S → List (Call C S B) → C → S → Type 0
Chain post c s [] c' s' = (c' ≡ c) × (s' ≡ s)
Chain post c s (x ∷ xs) c' s' = (x.before ≡ c) × (x.state ≡ s) × post x.before x.state x.node x.answer x.after x.left ×
    Chain post x.after x.left xs c' s'

-- the called nodes, in order
abbrev pub nodes_of : {C S B : Type 0} → List (Call C S B) → List IRNode
nodes_of [] = []
nodes_of (x ∷ xs) = x.node ∷ nodes_of xs

-- no call answered Break
abbrev pub NoBreak : {C S B : Type 0} → List (Call C S B) → Type 0
NoBreak [] = Unit {0}
NoBreak {B} (x ∷ xs) = ((b : B) → x.answer ≢ Break b) × NoBreak xs
