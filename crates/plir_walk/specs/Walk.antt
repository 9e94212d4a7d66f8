-- What it is for a list of calls, and an answer, to be a walk of a tree.
use Rattle.std.specs.Prelude.{◌≡◌, ℕ, ◌≤◌, List, [], ◌∷◌, ◌++◌, length, Result, Ok, Err}
use Rattle.std.specs.declared.ops.ControlFlow.{ControlFlow}
use Rattle.std.specs.declared.ops.ControlFlow.TheVariants.{Continue, Break}
use Rattle.plir_walk.specs.declared.interruptible.WalkContinue.{WalkContinue}
use Rattle.plir_walk.specs.declared.interruptible.WalkContinue.TheVariants.{Advance}
use Rattle.plir_walk.specs.declared.limit.CallLimit.{CallLimit}
use Rattle.plir_core.specs.declared.ptr.IRNode.{IRNode}
use Rattle.plir_walk.specs.declared.config.WalkConfig.{WalkConfig}
use Rattle.plir_walk.specs.Lists.{Pairs}
use Rattle.plir_store.specs.Members.{Has}
use Rattle.plir_walk.specs.Tree.{Tree, IsUnder, HasOnePlaceEach, NodeBefore}
use Rattle.plir_walk.specs.Calls.{Call, nodes_of, NoBreak}
use Rattle.plir_walk.specs.ShutOut.{IsShutOut}

-- the last call, and only that one, answered with the break b
abbrev pub LastBreaks : {C S B : Type 0} → List (Call C S B) → B → Type 0
LastBreaks {C} {S} {B} calls b = (front : List (Call C S B)) × (end : Call C S B) × (calls ≡ front ++ end ∷ []) ×
    (end.answer ≡ Break b) × NoBreak front

module _ {C S B : Type 0} (w : WalkConfig) (t : Tree) (r : IRNode) where
  -- n is due: it is under the root, and the calls do not shut it out
  abbrev pub IsDue : List (Call C S B) → IRNode → Type 0
  IsDue calls n = IsUnder t r n × (IsShutOut w t r calls n → ⊥)

  -- The called nodes lie under the root, and stand in the order of their places, each strictly before the next ones.
  pub record InOrder (calls : List (Call C S B)) : Type 0 where
    pub one_place : HasOnePlaceEach t r
    pub under_root : (n : IRNode) → Has (nodes_of calls) n → IsUnder t r n
    pub increasing : Pairs (NodeBefore w t r) (nodes_of calls)

  -- A walk calls what is due to it: `Due` is to be due as above, or that and a test of the node.
  module _ (Due : List (Call C S B) → IRNode → Type 0) (calls : List (Call C S B)) where
    -- the called nodes are exactly the due ones
    abbrev pub CallsAllDue : Type 0
    CallsAllDue = (n : IRNode) → (Has (nodes_of calls) n → Due calls n) × (Due calls n → Has (nodes_of calls) n)

    -- n is due, and not after `end`
    abbrev pub IsDueUpTo : (end n : IRNode) → Type 0
    IsDueUpTo end n = Due calls n × (NodeBefore w t r end n → ⊥)

    -- the called nodes are exactly the due ones that are not after the last node that was visited (none, if none was)
    abbrev pub CallsUpToLast : (visits : List (Call C S B)) → Type 0
    CallsUpToLast visits = (front : List (Call C S B)) (end : Call C S B) → visits ≡ front ++ end ∷ [] → (n : IRNode) →
        (Has (nodes_of calls) n → IsDueUpTo end.node n) × (IsDueUpTo end.node n → Has (nodes_of calls) n)

    -- What the answer of a walk says of its calls. Where it went to its end, no call broke, and exactly the due nodes
    -- were called. Where it was broken, the last call answered so, and exactly the due nodes that are not after it were
    -- called.
    abbrev pub AnswersBy : ControlFlow B WalkContinue → Type 0
    AnswersBy (Continue k) = (k ≡ Advance) × NoBreak calls × CallsAllDue
    AnswersBy (Break b) = LastBreaks calls b × CallsUpToLast calls

    -- The calls, and the answer, are a walk of what is due of the tree t under the root r.
    pub record IsWalkOf (answer : ControlFlow B WalkContinue) : Type 0 where
      pub in_order : InOrder calls
      pub answers : AnswersBy answer

  -- a walk of all nodes
  abbrev pub Answers : List (Call C S B) → ControlFlow B WalkContinue → Type 0
  Answers = AnswersBy IsDue

  abbrev pub IsWalk : List (Call C S B) → ControlFlow B WalkContinue → Type 0
  IsWalk = IsWalkOf IsDue

  -- The same of a walk with a limit. At the limit exactly `limit` calls were made, none broke, exactly the due nodes
  -- that are not after the last of them were called, and at least one due node was not called.
  abbrev pub AnswersWithin : ℕ → List (Call C S B) → Result (ControlFlow B WalkContinue) CallLimit → Type 0
  AnswersWithin limit calls (Ok a) = Answers calls a
  AnswersWithin limit calls (Err x) = (length calls ≡ limit) × NoBreak calls × CallsUpToLast IsDue calls calls ×
      ((n : IRNode) × IsDue calls n × (Has (nodes_of calls) n → ⊥))

  -- The calls, and the answer, are a walk with a limit.
  pub record IsWalkWithin (limit : ℕ) (calls : List (Call C S B))
      (answer : Result (ControlFlow B WalkContinue) CallLimit) : Type 0 where
    pub in_order : InOrder calls
    pub within : length calls ≤ limit
    pub answers : AnswersWithin limit calls answer
