-- How far the loops over blocks and operands have come.
use Rattle.std.specs.Prelude.{◌≡◌, ℕ, Bool, false, List, ◌∷◌, ◌++◌, Option}
use Rattle.std.specs.declared.ops.ControlFlow.{ControlFlow}
use Rattle.std.specs.declared.ops.ControlFlow.TheVariants.{Continue, Break}
use Rattle.plir_walk.specs.declared.interruptible.WalkContinue.{WalkContinue}
use Rattle.plir_walk.specs.declared.interruptible.WalkContinue.TheVariants.{Advance, Skip}
use Rattle.plir_store.specs.Members.{Has}
use Rattle.plir_core.specs.declared.ptr.Ptr.{Ptr}
use Rattle.plir_core.specs.declared.ptr.Operation.{Operation as OperationKind}
use Rattle.plir_core.specs.declared.ptr.BasicBlock.{BasicBlock as BasicBlockKind}
use Rattle.plir_core.specs.declared.ptr.IRNode.{IRNode}
use Rattle.plir_core.specs.declared.ptr.IRNode.TheVariants.{Operation, BasicBlock}
use Rattle.plir_core.specs.declared.arena.making.NodeErr.{NodeErr}
use Rattle.plir_core.specs.declared.arena.making.NodeErr.TheVariants.{TooManyNodes}
use Rattle.plir_core.specs.Forest.{look}
use Rattle.plir_core.specs.Room.{IsFullForOp}
use Rattle.plir_core.specs.ContextView.{ContextView, children}
use Rattle.plir_core.specs.WellFormed.{IsWellFormed}
use Rattle.plir_walk.specs.Lawful.{Lawful}
use Rattle.plir_folding.specs.Worth.{Integer, IsSettled}
use Rattle.plir_folding.specs.Folded.{IsFolded, IsFlagged}

module _ {K A T : Type 0} where
  -- From s to t nodes have come right before an operation of a block, and the block has changed no further.
  abbrev pub IsFilledBefore : (s t : ContextView K A T) → Ptr BasicBlockKind → Ptr OperationKind → Type 0
  IsFilledBefore s t b op = (xs ys : List IRNode) → children s (BasicBlock b) ≡ xs ++ Operation op ∷ ys →
      (ks : List IRNode) × (children t (BasicBlock b) ≡ xs ++ (ks ++ Operation op ∷ ys))

  -- the flag tells whether anything has changed; where it is clear, P holds
  pub record IsToldBy (s : ContextView K A T) (flag flag' : Bool) (t : ContextView K A T)
      (P : ContextView K A T → Type 0) : Type 0 where
    pub tells : IsFlagged s flag flag' t
    pub settled : flag' ≡ false → P t

  module _ (fold : K → Integer → Integer → Option Integer) where
    -- no operand of an operation that is a child of a node folds
    abbrev pub AreChildrenSettled : ContextView K A T → IRNode → Type 0
    AreChildrenSettled s n = (p : Ptr OperationKind) → Has (children s n) (Operation p) → IsSettled fold s p

    -- From s to t operands were replaced by new constants of what they evaluate to, and the tree below n has changed
    -- alone, but for operands. `own_handles` gives the type handles of the user's own attributes.
    pub record IsFoldedBelow (own_handles : A → List ℕ) (s : ContextView K A T) (n : IRNode)
        (t : ContextView K A T) : Type 0 where
      pub folded : IsFolded fold s t
      pub lawful : Lawful (look s) n (look t)
      pub whole : IsWellFormed own_handles t

    -- what the answer of a call at a node promises: it has gone on, or has broken the walk off, and where it did so for
    -- too many nodes there is no room for one more constant
    abbrev pub IsAnswered : ContextView K A T → Bool → IRNode → ControlFlow NodeErr WalkContinue →
        ContextView K A T → Bool → Type 0
    IsAnswered s flag n (Continue Advance) t flag' = IsToldBy s flag flag' t (λ c. AreChildrenSettled c n)
    IsAnswered s flag n (Continue Skip) t flag' = ⊥
    IsAnswered s flag n (Break e) t flag' = e ≡ TooManyNodes → IsFullForOp t.nodes 0

    -- the call at a node
    pub record IsFoldedAt (own_handles : A → List ℕ) (s : ContextView K A T) (flag : Bool) (n : IRNode)
        (answer : ControlFlow NodeErr WalkContinue) (t : ContextView K A T) (flag' : Bool) : Type 0 where
      pub below : IsFoldedBelow own_handles s n t
      pub answered : IsAnswered s flag n answer t flag'
