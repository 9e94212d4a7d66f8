-- What is called where the table of an operation is walked.
use Rattle.std.specs.Prelude.{◌≡◌, Bool, true, false, List, [], ◌∷◌, ◌++◌}
use Rattle.std.specs.declared.ops.ControlFlow.{ControlFlow}
use Rattle.std.specs.declared.ops.ControlFlow.TheVariants.{Continue, Break}
use Rattle.plir_core.specs.declared.ptr.Ptr.{Ptr}
use Rattle.plir_core.specs.declared.ptr.Operation.{Operation as OperationKind}
use Rattle.plir_core.specs.declared.ptr.Region.{Region as RegionKind}
use Rattle.plir_core.specs.declared.ptr.IRNode.{IRNode}
use Rattle.plir_core.specs.declared.ptr.IRNode.TheVariants.{Operation, Region, BasicBlock}
use Rattle.plir_store.specs.Members.{Has}
use Rattle.plir_core.specs.ContextView.{ContextView, kind_of}
use Rattle.plir_core.specs.Forest.{Shape}
use Rattle.plir_walk.specs.declared.config.TheConstants.{WALKCONFIG_PREORDER_FORWARD as pre_forward}
use Rattle.plir_walk.specs.declared.interruptible.WalkContinue.{WalkContinue}
use Rattle.plir_walk.specs.declared.interruptible.WalkContinue.TheVariants.{Advance, Skip}
use Rattle.plir_walk.specs.Lists.{Pairs}
use Rattle.plir_walk.specs.Tree.{Tree, IsProperlyUnder, HasOnePlaceEach, NodeBefore}
use Rattle.plir_walk.specs.Calls.{Call, Relation, Chain, nodes_of, NoBreak}
use Rattle.plir_walk.specs.ShutOut.{IsSkipped}
use Rattle.plir_walk.specs.Walked.{IsCallUnder}
use Rattle.plir_builtin.specs.Symbols.{is_table_kind}

-- what a callback of operations may do
abbrev pub OpRelation : Type 0 → Type 0 → Type 0 → Type 1
OpRelation C S B = C → S → Ptr OperationKind → ControlFlow B WalkContinue → C → S → Type 0

-- a call of such a callback: its node is an operation
abbrev pub AtOps : {C S B : Type 0} → OpRelation C S B → Relation C S B
AtOps post c s (Operation p) a c' s' = post c s p a c' s'
AtOps post c s (Region p) a c' s' = ⊥
AtOps post c s (BasicBlock p) a c' s' = ⊥

-- An operation is due: it is below the region r, no table below r is above it, and it is not below an
-- operation whose call answered Skip. It may itself be a table.
pub record IsDueInTable {C S B : Type 0} (is_table : Ptr OperationKind → Bool) (t : Tree) (r : IRNode)
    (calls : List (Call C S B)) (p : Ptr OperationKind) : Type 0 where
  pub below : IsProperlyUnder t r (Operation p)
  pub no_table : (q : Ptr OperationKind) → IsProperlyUnder t r (Operation q) →
      IsProperlyUnder t (Operation q) (Operation p) → is_table q ≡ false
  pub no_skip : (a : IRNode) → IsSkipped calls a → IsProperlyUnder t a (Operation p) → ⊥

-- the called operations are exactly those that are due
abbrev pub CallsAllInTable : {C S B : Type 0} → (Ptr OperationKind → Bool) → Tree → IRNode → List (Call C S B) → Type 0
CallsAllInTable is_table t r calls = (p : Ptr OperationKind)
    → (Has (nodes_of calls) (Operation p) → IsDueInTable is_table t r calls p) ×
    (IsDueInTable is_table t r calls p → Has (nodes_of calls) (Operation p))

-- an operation is due, and is not after the node n
abbrev pub IsDueInTableUpTo : {C S B : Type 0} → (Ptr OperationKind → Bool) → Tree → IRNode → List (Call C S B) →
    IRNode → Ptr OperationKind → Type 0
IsDueInTableUpTo is_table t r calls n p = IsDueInTable is_table t r calls p ×
    (NodeBefore pre_forward t r n (Operation p) → ⊥)

-- The last call, and only that one, answered with the break b. The called operations are exactly those that are to be
-- called and are not after that of the last call.
pub record CallsTableUpToBreak {C S B : Type 0} (is_table : Ptr OperationKind → Bool) (t : Tree) (r : IRNode)
    (calls : List (Call C S B)) (b : B) : Type 0 where
  pub front : List (Call C S B)
  pub end : Call C S B
  pub are : calls ≡ front ++ end ∷ []
  pub broke : end.answer ≡ Break b
  pub none_before : NoBreak front
  pub exactly : (p : Ptr OperationKind)
      → (Has (nodes_of calls) (Operation p) → IsDueInTableUpTo is_table t r calls end.node p) ×
      (IsDueInTableUpTo is_table t r calls end.node p → Has (nodes_of calls) (Operation p))

-- what the answer says of the calls
abbrev pub TableWalkAnswers : {C S B : Type 0} → (Ptr OperationKind → Bool) → Tree → IRNode → List (Call C S B) →
    ControlFlow B WalkContinue → Type 0
TableWalkAnswers is_table t r calls (Continue k) = (k ≡ Advance) × NoBreak calls × CallsAllInTable is_table t r calls
TableWalkAnswers is_table t r calls (Break b) = CallsTableUpToBreak is_table t r calls b

-- The called operations stand in the order of their places, PreOrder Forward, and are those that are due,
-- up to the first break.
pub record IsTableWalk {C S B : Type 0} (is_table : Ptr OperationKind → Bool) (t : Tree) (r : IRNode)
    (calls : List (Call C S B)) (answer : ControlFlow B WalkContinue) : Type 0 where
  pub one_place : HasOnePlaceEach t r
  pub increasing : Pairs (NodeBefore pre_forward t r) (nodes_of calls)
  pub answers : TableWalkAnswers is_table t r calls answer

-- The operations below the one region of t were called: there is a list of calls, one after another from the entry
-- to the exit, that leave the context as it is. Each is a call that a walk from that region can make, in the callback's
-- relation.
pub record IsTableWalked {C S B : Type 0} (look : C → Shape) (is_table : C → Ptr OperationKind → Bool)
    (post : OpRelation C S B) (c : C) (s : S) (t : Ptr OperationKind) (answer : ControlFlow B WalkContinue) (s' : S) :
    Type 0 where
  pub region : Ptr RegionKind
  pub one_region : (look c).children (Operation t) ≡ Region region ∷ []
  pub calls : List (Call C S B)
  pub chain : Chain (IsCallUnder look (Region region) (AtOps post)) c s calls c s'
  pub handing : IsTableWalk (is_table c) (look c).children (Region region) calls answer

-- the answer at a table, that is not to be entered
abbrev pub not_entering : {B : Type 0} → Bool → ControlFlow B WalkContinue → ControlFlow B WalkContinue
not_entering false a = a
not_entering true (Continue k) = Continue Skip
not_entering true (Break b) = Break b

-- A call at any node, that passes operations on to a callback, and enters no table.
abbrev pub PassesOn : {C S B : Type 0} → (C → Ptr OperationKind → Bool) → OpRelation C S B → Relation C S B
PassesOn {C} {S} {B} is_table post c s (Operation p) a c' s' = (b : ControlFlow B WalkContinue) × post c s p b c' s' ×
    (a ≡ not_entering (is_table c p) b)
PassesOn is_table post c s (Region p) a c' s' = (a ≡ Continue Advance) × (s' ≡ s)
PassesOn is_table post c s (BasicBlock p) a c' s' = (a ≡ Continue Advance) × (s' ≡ s)

-- whether an operation of a context is of table kind
abbrev pub is_table_at : {K A T : Type 0} → (own_table : K → Bool) → ContextView K A T → Ptr OperationKind → Bool
is_table_at own_table s p = is_table_kind own_table (kind_of s p)
