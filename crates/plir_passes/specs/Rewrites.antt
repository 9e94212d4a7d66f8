-- The calls of `rewrite` that a conversion makes, one after another.
use Rattle.std.specs.Prelude.{◌≡◌, Bool, true, List, [], ◌∷◌, ◌++◌, Result, Ok, Err, Some, OnOk}
use Rattle.std.specs.List.{filter}
use Rattle.std.specs.declared.ops.ControlFlow.{ControlFlow}
use Rattle.std.specs.declared.ops.ControlFlow.TheVariants.{Continue, Break}
use Rattle.plir_data.specs.declared.op_set.OpKind.{OpKind}
use Rattle.plir_store.specs.Members.{Has}
use Rattle.plir_core.specs.declared.ptr.Ptr.{Ptr}
use Rattle.plir_core.specs.declared.ptr.Operation.{Operation as OperationKind}
use Rattle.plir_core.specs.declared.ptr.BasicBlock.{BasicBlock as BasicBlockKind}
use Rattle.plir_core.specs.declared.ptr.IRNode.{IRNode}
use Rattle.plir_core.specs.declared.ptr.IRNode.TheVariants.{Operation, Region, BasicBlock}
use Rattle.plir_core.specs.Forest.{look}
use Rattle.plir_core.specs.ContextView.{ContextView, children, parent_of}
use Rattle.plir_walk.specs.declared.interruptible.WalkContinue.{WalkContinue}
use Rattle.plir_walk.specs.declared.interruptible.WalkContinue.TheVariants.{Advance}
use Rattle.plir_walk.specs.declared.config.TheConstants.{WALKCONFIG_PREORDER_FORWARD as pre_forward}
use Rattle.plir_walk.specs.Calls.{Call, Chain}
use Rattle.plir_walk.specs.Walk.{IsWalk}
use Rattle.plir_walk.specs.Walked.{IsCallUnder}
use Rattle.plir_passes.specs.Legal.{is_illegal}
use Rattle.plir_passes.specs.Rewritten.{IsRewriting, IsReplaced}

-- What a conversion says of a call of `rewrite`: the context before it, the block and the operation, the answer, the
-- context after it.
abbrev pub Rewrites : Type 0 → Type 0 → Type 0 → Type 0 → Type 1
Rewrites K A T E = ContextView K A T → Ptr BasicBlockKind → Ptr OperationKind → Result (Unit {0}) E →
    ContextView K A T → Type 0

-- the answer of a conversion, as that of a walk
abbrev pub answer_as_walk : {E : Type 0} → Result (Unit {0}) E → ControlFlow E WalkContinue
answer_as_walk (Ok u) = Continue Advance
answer_as_walk (Err e) = Break e

-- One call of `rewrite`.
pub record Rewrite (K A T E : Type 0) : Type 0 where
  pub before : ContextView K A T
  pub block : Ptr BasicBlockKind
  pub op : Ptr OperationKind
  pub answer : Result (Unit {0}) E
  pub after : ContextView K A T

module _ {K A T E : Type 0} where
  -- the operations of calls, in order
  abbrev pub ops_of : List (Rewrite K A T E) → List IRNode
  ops_of [] = []
  ops_of (x ∷ xs) = Operation x.op ∷ ops_of xs

  -- no call was refused
  abbrev pub NoRefusal : List (Rewrite K A T E) → Type 0
  NoRefusal [] = Unit {0}
  NoRefusal (x ∷ xs) = (x.answer ≡ Ok tt) × NoRefusal xs

  -- the last call, and only that one, was refused, by e
  abbrev pub LastRefuses : List (Rewrite K A T E) → E → Type 0
  LastRefuses calls e = (front : List (Rewrite K A T E)) × (end : Rewrite K A T E) × (calls ≡ front ++ end ∷ []) ×
      (end.answer ≡ Err e) × NoRefusal front

  -- What an answer says of the calls, where there is a list of operations to be replaced: all of them were, in order;
  -- or up to one at which the call was refused.
  abbrev pub AnswersFor : List IRNode → List (Rewrite K A T E) → Result (Unit {0}) E → Type 0
  AnswersFor due calls (Ok u) = NoRefusal calls × (ops_of calls ≡ due)
  AnswersFor due calls (Err e) = LastRefuses calls e × (rest : List IRNode) × (due ≡ ops_of calls ++ rest)

  module _ (illegal : OpKind K → Bool) (rewrites : Rewrites K A T E) where
    -- A call of `rewrite` at an illegal operation of a block: it leaves what the conversion says, and what every one
    -- has to leave.
    pub record IsRewrite (x : Rewrite K A T E) : Type 0 where
      pub here : parent_of x.before (Operation x.op) ≡ Some (BasicBlock x.block)
      pub due : is_illegal illegal x.before (Operation x.op) ≡ true
      pub told : rewrites x.before x.block x.op x.answer x.after
      pub rewriting : IsRewriting illegal x.before x.after x.block x.op
      pub replaced : OnOk x.answer (IsReplaced x.before x.after x.block x.op)

    -- The first call begins in s, each next one in what the last one left, and t is what the last one leaves: nothing
    -- else has changed the context.
    abbrev pub AreRewrites : ContextView K A T → List (Rewrite K A T E) → ContextView K A T → Type 0
    AreRewrites s [] t = t ≡ s
    AreRewrites s (x ∷ xs) t = (x.before ≡ s) × IsRewrite x × AreRewrites x.after xs t

    -- From s to t the illegal operations of the block b were handed to `rewrite`, from the first one on, each once: all
    -- of them, or up to the first refusal. Nothing else was done.
    pub record IsBlockConverted (s : ContextView K A T) (b : Ptr BasicBlockKind) (answer : Result (Unit {0}) E)
        (t : ContextView K A T) : Type 0 where
      pub calls : List (Rewrite K A T E)
      pub chain : AreRewrites s calls t
      pub in_block : (x : Rewrite K A T E) → Has calls x → x.block ≡ b
      pub answers : AnswersFor (filter (is_illegal illegal s) (children s (BasicBlock b))) calls answer

    -- The call of a walk at a node: a block is converted, at an operation and a region nothing is done.
    abbrev pub IsNodeConverted : ContextView K A T → IRNode → ControlFlow E WalkContinue → ContextView K A T → Type 0
    IsNodeConverted s (Operation p) a t = (a ≡ Continue Advance) × (t ≡ s)
    IsNodeConverted s (Region p) a t = (a ≡ Continue Advance) × (t ≡ s)
    IsNodeConverted s (BasicBlock b) a t = (answer : Result (Unit {0}) E) × (a ≡ answer_as_walk answer) ×
        IsBlockConverted s b answer t

    -- From s to t what stands below r is converted: the nodes are walked, PreOrder Forward, by calls one after another
    -- from s to t, which convert each block, until one of them was refused. What is walked is the tree in t: also what
    -- was made in place of others.
    pub record IsConversion (s : ContextView K A T) (r : IRNode) (answer : Result (Unit {0}) E)
        (t : ContextView K A T) : Type 0 where
      pub calls : List (Call (ContextView K A T) (Unit {0}) E)
      pub chain : Chain (IsCallUnder look r (λ c u n a c' u'. IsNodeConverted c n a c')) s tt calls t tt
      pub walk : IsWalk pre_forward (children t) r calls (answer_as_walk answer)
