-- The walk that looks for an operation that branches to a block.
use Rattle.std.specs.Prelude.{Bool, true, false, cond, List, [], ◌∷◌}
use Rattle.std.specs.declared.ops.ControlFlow.{ControlFlow}
use Rattle.std.specs.declared.ops.ControlFlow.TheVariants.{Continue, Break}
use Rattle.plir_store.specs.Members.{Has}
use Rattle.plir_core.specs.declared.ptr.Ptr.{Ptr}
use Rattle.plir_core.specs.declared.ptr.Operation.{Operation as OperationKind}
use Rattle.plir_core.specs.declared.ptr.BasicBlock.{BasicBlock as BlockKind}
use Rattle.plir_core.specs.declared.ptr.IRNode.{IRNode}
use Rattle.plir_core.specs.declared.ptr.IRNode.TheVariants.{Operation, Region, BasicBlock}
use Rattle.plir_core.specs.ContextView.{ContextView, IsAncestor, successors_of}
use Rattle.plir_core.specs.SameValue.{same_ptr}
use Rattle.plir_walk.specs.declared.interruptible.WalkContinue.{WalkContinue}
use Rattle.plir_walk.specs.declared.interruptible.WalkContinue.TheVariants.{Advance}

-- whether a block is in a list
abbrev pub has_block : List (Ptr BlockKind) → Ptr BlockKind → Bool
has_block [] b = false
has_block (x ∷ xs) b = cond (same_ptr x b) true (has_block xs b)

-- the walk breaks off where an operation branches to the block
abbrev pub answer_for : Bool → ControlFlow (Unit {0}) WalkContinue
answer_for true = Break tt
answer_for false = Continue Advance

module _ {K A T : Type 0} where
  -- the answer at a node
  abbrev pub branch_answer : Ptr BlockKind → ContextView K A T → IRNode → ControlFlow (Unit {0}) WalkContinue
  branch_answer b s (Operation p) = answer_for (has_block (successors_of s p) b)
  branch_answer b s (Region r) = Continue Advance
  branch_answer b s (BasicBlock c) = Continue Advance

  -- no operation below a block branches to it
  abbrev pub NoBranchBack : ContextView K A T → Ptr BlockKind → Type 0
  NoBranchBack s b = (p : Ptr OperationKind) → IsAncestor s (BasicBlock b) (Operation p) → Has (successors_of s p) b → ⊥
