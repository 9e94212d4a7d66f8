-- Arguments of blocks that were dropped one after another.
use Rattle.std.specs.Prelude.{◌≡◌, ℕ, Bool, true, false, List, [], ◌∷◌, Option}
use Rattle.plir_core.specs.declared.ptr.Ptr.{Ptr}
use Rattle.plir_core.specs.declared.ptr.Operation.{Operation as OperationKind}
use Rattle.plir_core.specs.declared.ptr.BasicBlock.{BasicBlock as BlockKind}
use Rattle.plir_core.specs.declared.ptr.IRNode.TheVariants.{Operation, BasicBlock}
use Rattle.plir_core.specs.declared.arena.making.NodeErr.{NodeErr}
use Rattle.plir_core.specs.declared.arena.making.NodeErr.TheVariants.{Memory, TooManyNodes}
use Rattle.plir_core.specs.Contents.{OpView}
use Rattle.plir_core.specs.ContextView.{ContextView, children}
use Rattle.plir_core.specs.Changes.{SameLive}
use Rattle.plir_core.specs.Room.{IsFullForBlock}
use Rattle.plir_walk.specs.Tree.{IsUnder}
use Rattle.plir_flow.specs.Branches.{Range as Places}
use Rattle.plir_arguments.specs.Dropped.{CanDrop, IsDropped}

-- one step: which argument of which block was dropped, and the block that has come in its place
pub record Step : Type 0 where
  pub block : Ptr BlockKind
  pub place : ℕ
  pub new : Ptr BlockKind

-- whether there are steps
abbrev pub is_any : List Step → Bool
is_any [] = false
is_any (x ∷ xs) = true

module _ {K A T : Type 0} (removes : ℕ → OpView K A → Bool) (forwards : ℕ → OpView K A → Option Places)
    (root : Ptr OperationKind) where
  -- the argument of a block at a place can be dropped, and the block stands below the root
  pub record CanDropBelow (s : ContextView K A T) (b : Ptr BlockKind) (i : ℕ) : Type 0 where
    pub below : IsUnder (children s) (Operation root) (BasicBlock b)
    pub can : CanDrop removes forwards s b i

  -- no argument of a block below the root is left that can be dropped
  abbrev pub NoneLeft : ContextView K A T → Type 0
  NoneLeft s = (b : Ptr BlockKind) (i : ℕ) → CanDropBelow s b i → ⊥

  -- Why a step was refused: an argument can be dropped, and there is no room for a block; or memory was.
  abbrev pub IsStepRefusal : ContextView K A T → NodeErr → Type 0
  IsStepRefusal s Memory = Unit {0}
  IsStepRefusal s TooManyNodes = (b : Ptr BlockKind) × (i : ℕ) × CanDropBelow s b i × IsFullForBlock s.nodes

  module _ (keys : List (List ℕ)) where
    -- From s to t arguments of blocks below the root were dropped, one after another, each of which could be when its
    -- turn came, and nothing else was done.
    abbrev pub AreSteps : ContextView K A T → List Step → ContextView K A T → Type 0
    AreSteps s [] t = t ≡ s
    AreSteps s (x ∷ xs) t = (u : ContextView K A T) × CanDropBelow s x.block x.place ×
        IsDropped keys forwards s u x.block x.place x.new × AreSteps u xs t

    -- From s to t one argument of a block below the root was dropped.
    abbrev pub IsOneStep : ContextView K A T → ContextView K A T → Type 0
    IsOneStep s t = (x : Step) × AreSteps s (x ∷ []) t

    -- Arguments were dropped from s to t until none was left that could be; it is told whether there was any.
    pub record AreAllDropped (s t : ContextView K A T) (any : Bool) : Type 0 where
      pub steps : List Step
      pub went : AreSteps s steps t
      pub told : any ≡ is_any steps
      pub whole : NoneLeft t

    -- Arguments were dropped from s on, and then a step was refused, by which no live node has changed.
    pub record AreCutShort (s t : ContextView K A T) (e : NodeErr) : Type 0 where
      pub before : ContextView K A T
      pub steps : List Step
      pub went : AreSteps s steps before
      pub refused : IsStepRefusal before e
      pub same : SameLive before t
