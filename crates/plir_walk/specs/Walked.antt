-- The contracts of the walkers.
use Rattle.std.specs.Prelude.{ℕ, List, Result, Ok, Err}
use Rattle.std.specs.declared.ops.ControlFlow.{ControlFlow}
use Rattle.std.specs.declared.ops.ControlFlow.TheVariants.{Continue}
use Rattle.plir_walk.specs.declared.interruptible.WalkContinue.{WalkContinue}
use Rattle.plir_walk.specs.declared.interruptible.WalkContinue.TheVariants.{Advance}
use Rattle.plir_walk.specs.declared.limit.CallLimit.{CallLimit}
use Rattle.plir_core.specs.declared.ptr.IRNode.{IRNode}
use Rattle.plir_core.specs.Forest.{Shape, IsForest}
use Rattle.plir_walk.specs.Lawful.{StandsUnder, Lawful, SameShape}
use Rattle.plir_walk.specs.declared.config.WalkConfig.{WalkConfig}
use Rattle.plir_walk.specs.Config.{AllPre, AllPost}
use Rattle.plir_walk.specs.Calls.{Call, Relation, Chain}
use Rattle.plir_walk.specs.Walk.{IsWalk, IsWalkWithin}
use Rattle.plir_walk.specs.AsRead.{tree_read}

-- A call that a walk from the root r can make: the node is live and stands under the root in a forest, a forest is
-- left, and the call is in the callback's relation.
pub record IsCallUnder {C S B : Type 0} (look : C → Shape) (r : IRNode) (post : Relation C S B)
    (c : C) (s : S) (n : IRNode) (a : ControlFlow B WalkContinue) (c' : C) (s' : S) : Type 0 where
  pub stands : StandsUnder (look c) r n
  pub leaves : IsForest (look c')
  pub made : post c s n a c' s'

-- each call that a walk from r can make is lawful
abbrev pub IsLawful : {C S B : Type 0} → (C → Shape) → IRNode → Relation C S B → Type 0
IsLawful {C} {S} {B} look r post = (c : C) (s : S) (n : IRNode) (a : ControlFlow B WalkContinue) (c' : C) (s' : S)
    → IsCallUnder look r post c s n a c' s' → Lawful (look c) n (look c')

-- each call that a walk from r can make keeps the shape
abbrev pub KeepsShape : {C S B : Type 0} → (C → Shape) → IRNode → Relation C S B → Type 0
KeepsShape {C} {S} {B} look r post = (c : C) (s : S) (n : IRNode) (a : ControlFlow B WalkContinue) (c' : C) (s' : S)
    → IsCallUnder look r post c s n a c' s' → SameShape (look c) (look c')

-- A walk that leaves the context c as it is: there is a list of calls that a walk from r can make, one after another
-- from the entry to the exit, that is a walk of the context's tree.
pub record WalkedOver {C S B : Type 0} (look : C → Shape) (w : WalkConfig) (post : Relation C S B) (c : C) (s : S)
    (r : IRNode) (answer : ControlFlow B WalkContinue) (s' : S) : Type 0 where
  pub calls : List (Call C S B)
  pub chain : Chain (IsCallUnder look r post) c s calls c s'
  pub walk : IsWalk w (look c).children r calls answer

-- A walk whose calls may change the context from c to c': there is a list of at most `limit` calls that a walk from r
-- can make, one after another from the entry to the exit, that is a walk of the tree as the calls read it. If all
-- levels are PreOrder it is a walk of the tree at the exit too, if all are PostOrder of the tree at the entry, and if
-- the callback keeps the shape of both, whatever the setting.
pub record Walked {C S B : Type 0} (look : C → Shape) (w : WalkConfig) (post : Relation C S B) (c : C) (s : S)
    (r : IRNode) (limit : ℕ)
    (answer : Result (ControlFlow B WalkContinue) CallLimit) (c' : C) (s' : S) : Type 0 where
  pub calls : List (Call C S B)
  pub chain : Chain (IsCallUnder look r post) c s calls c' s'
  pub as_read : IsWalkWithin w (tree_read look w calls c') r limit calls answer
  pub at_exit : AllPre w → IsWalkWithin w (look c').children r limit calls answer
  pub at_entry : AllPost w → IsWalkWithin w (look c).children r limit calls answer
  pub unchanged : KeepsShape look r post → IsWalkWithin w (look c).children r limit calls answer

-- the answer of a walk whose callback always advances
abbrev pub plain_answer : Result (Unit {0}) CallLimit → Result (ControlFlow (Unit {0}) WalkContinue) CallLimit
plain_answer (Ok u) = Ok (Continue Advance)
plain_answer (Err x) = Err x
