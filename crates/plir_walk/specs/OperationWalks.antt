-- Walks that call at operations alone: what their calls are, and their contract.
use Rattle.std.specs.Prelude.{◌≡◌, ℕ, Bool, true, false, List, Result, Ok, Err}
use Rattle.std.specs.List.{filter}
use Rattle.std.specs.declared.ops.ControlFlow.{ControlFlow}
use Rattle.std.specs.declared.ops.ControlFlow.TheVariants.{Continue}
use Rattle.plir_core.specs.Forest.{Shape}
use Rattle.plir_core.specs.declared.ptr.Ptr.{Ptr}
use Rattle.plir_core.specs.declared.ptr.Operation.{Operation as OperationKind}
use Rattle.plir_core.specs.declared.ptr.IRNode.{IRNode}
use Rattle.plir_core.specs.declared.ptr.IRNode.TheVariants.{Operation, BasicBlock, Region}
use Rattle.plir_walk.specs.declared.interruptible.WalkContinue.{WalkContinue}
use Rattle.plir_walk.specs.declared.interruptible.WalkContinue.TheVariants.{Advance}
use Rattle.plir_walk.specs.declared.limit.CallLimit.{CallLimit}
use Rattle.plir_walk.specs.declared.config.WalkConfig.{WalkConfig}
use Rattle.plir_walk.specs.AsRead.{tree_read}
use Rattle.plir_walk.specs.Lawful.{Lawful}
use Rattle.plir_walk.specs.Tree.{Tree}
use Rattle.plir_walk.specs.Calls.{Call, Relation, Chain, NoBreak}
use Rattle.plir_walk.specs.Walk.{CallsUpToLast, InOrder, IsDue, IsWalkOf}
use Rattle.plir_walk.specs.Walked.{IsCallUnder, Walked}

-- whether a node is an operation
abbrev pub is_operation : IRNode → Bool
is_operation (Operation p) = true
is_operation _ = false

-- What a callback at operations may do: the context and the state before, the operation, the answer, the context and
-- the state after.
abbrev pub OperationRelation : Type 0 → Type 0 → Type 0 → Type 1
OperationRelation C S B = C → S → Ptr OperationKind → ControlFlow B WalkContinue → C → S → Type 0

-- A call at a node is one at an operation. At a region or a block there is none.
abbrev pub AtOperations : {C S B : Type 0} → OperationRelation C S B → Relation C S B
AtOperations post c s (Operation p) a c' s' = post c s p a c' s'
AtOperations post c s (BasicBlock p) a c' s' = ⊥
AtOperations post c s (Region p) a c' s' = ⊥

-- What is done at a node of any kind: an operation is called. At a region or a block nothing is done, and the walk goes
-- on.
abbrev pub AtEachNode : {C S B : Type 0} → OperationRelation C S B → Relation C S B
AtEachNode post c s (Operation p) a c' s' = post c s p a c' s'
AtEachNode post c s (BasicBlock p) a c' s' = (a ≡ Continue Advance) × (c' ≡ c) × (s' ≡ s)
AtEachNode post c s (Region p) a c' s' = (a ≡ Continue Advance) × (c' ≡ c) × (s' ≡ s)

-- each call at an operation that a walk from r can make is lawful
abbrev pub IsLawfulAtOperations : {C S B : Type 0} → (C → Shape) → IRNode → OperationRelation C S B → Type 0
IsLawfulAtOperations {C} {S} {B} look r post =
    (c : C) (s : S) (p : Ptr OperationKind) (a : ControlFlow B WalkContinue) (c' : C) (s' : S)
    → IsCallUnder look r (AtOperations post) c s (Operation p) a c' s' → Lawful (look c) (Operation p) (look c')

-- the calls at operations, in order
abbrev pub operation_calls : {C S B : Type 0} → List (Call C S B) → List (Call C S B)
operation_calls calls = filter (λ x. is_operation x.node) calls

module _ {C S B : Type 0} (w : WalkConfig) (t : Tree) (r : IRNode) where
  -- n is a due operation
  abbrev pub IsOperationDue : List (Call C S B) → IRNode → Type 0
  IsOperationDue calls n = IsDue w t r calls n × (is_operation n ≡ true)

  -- What calls at operations are, of a walk with a limit that came to the nodes of `visits`: a walk of the operations.
  -- At the limit none broke, and exactly the due operations that are not after the last of these nodes were called.
  abbrev pub AreOperationsCalled : (visits calls : List (Call C S B)) →
      Result (ControlFlow B WalkContinue) CallLimit → Type 0
  AreOperationsCalled visits calls (Ok a) = IsWalkOf w t r IsOperationDue calls a
  AreOperationsCalled visits calls (Err x) = InOrder w t r calls × NoBreak calls ×
      CallsUpToLast w t r IsOperationDue calls visits

-- A walk that leaves the context c as it is: there is a list of calls at operations that a walk from r can make, one
-- after another from the entry to the exit, that is a walk of the operations of the context's tree.
pub record WalkedOperations {C S B : Type 0} (look : C → Shape) (w : WalkConfig) (post : OperationRelation C S B)
    (c : C) (s : S) (r : IRNode) (answer : ControlFlow B WalkContinue) (s' : S) : Type 0 where
  pub calls : List (Call C S B)
  pub chain : Chain (IsCallUnder look r (AtOperations post)) c s calls c s'
  pub walk : IsWalkOf w (look c).children r (IsOperationDue w (look c).children r) calls answer

-- A walk whose calls at operations may change the context from c to c'. It comes to at most `limit` nodes, as a walk
-- does whose callback does at a region or a block nothing; and of these the calls at operations go, one after another,
-- from the entry to the exit, and are those at the operations of the tree as read. OperationLaws says of which other
-- trees they are a walk of the operations.
pub record WalkedOperationsWithin {C S B : Type 0} (look : C → Shape) (w : WalkConfig)
    (post : OperationRelation C S B) (c : C) (s : S) (r : IRNode) (limit : ℕ)
    (answer : Result (ControlFlow B WalkContinue) CallLimit) (c' : C) (s' : S) : Type 0 where
  pub walked : Walked look w (AtEachNode post) c s r limit answer c' s'
  pub chain : Chain (IsCallUnder look r (AtOperations post)) c s (operation_calls walked.calls) c' s'
  pub as_read : AreOperationsCalled w (tree_read look w walked.calls c') r walked.calls (operation_calls walked.calls)
      answer
