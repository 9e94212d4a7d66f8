-- The blocks of a tree, and which of their arguments are found.
use Rattle.std.specs.Prelude.{◌≡◌, ◌<◌, ◌++◌, ◌∷◌, ℕ, Bool, List, [], Option, Some, None, length, slice_get, sum_by}
use Rattle.std.specs.declared.ops.ControlFlow.{ControlFlow}
use Rattle.std.specs.declared.ops.ControlFlow.TheVariants.{Continue, Break}
use Rattle.plir_store.specs.Members.{Has, Distinct}
use Rattle.plir_core.specs.declared.ptr.Ptr.{Ptr}
use Rattle.plir_core.specs.declared.ptr.Operation.{Operation as OperationKind}
use Rattle.plir_core.specs.declared.ptr.BasicBlock.{BasicBlock as BlockKind}
use Rattle.plir_core.specs.declared.ptr.IRNode.{IRNode}
use Rattle.plir_core.specs.declared.ptr.IRNode.TheVariants.{Operation, Region, BasicBlock}
use Rattle.plir_core.specs.declared.uses.Use.{Use}
use Rattle.plir_core.specs.declared.value.DefiningEntity.TheVariants.{Block}
use Rattle.plir_core.specs.Contents.{OpView}
use Rattle.plir_core.specs.ContextView.{ContextView, IsLive, arg_types_of, children}
use Rattle.plir_core.specs.ValueUses.{HasUses}
use Rattle.plir_copies.specs.Copied.{value_at}
use Rattle.plir_walk.specs.declared.interruptible.WalkContinue.{WalkContinue}
use Rattle.plir_walk.specs.declared.interruptible.WalkContinue.TheVariants.{Advance, Skip}
use Rattle.plir_walk.specs.Tree.{IsUnder}
use Rattle.plir_flow.specs.Branches.{Range as Places, num_successors}
use Rattle.plir_arguments.specs.Dropped.{CanDrop}
use Rattle.plir_arguments.specs.declared.finding.Found.{Found}

-- the block that a node is, if it is one
abbrev pub block_in : IRNode → List (Ptr BlockKind)
block_in (Operation p) = []
block_in (Region r) = []
block_in (BasicBlock b) = b ∷ []

-- What a call at a node does to a list of blocks: the node is added, if it is a block, and the walk goes on; or it is
-- broken off.
abbrev pub IsNodePut : {B : Type 0} → List (Ptr BlockKind) → IRNode → ControlFlow B WalkContinue →
    List (Ptr BlockKind) → Type 0
IsNodePut bs n (Continue Advance) bs' = bs' ≡ bs ++ block_in n
IsNodePut bs n (Continue Skip) bs' = ⊥
IsNodePut bs n (Break b) bs' = Unit {0}

module _ {K A T : Type 0} where
  -- Exactly the blocks below an operation, each once.
  pub record AreBlocksBelow (s : ContextView K A T) (root : Ptr OperationKind) (bs : List (Ptr BlockKind)) : Type 0
    where
      pub only : (b : Ptr BlockKind) → Has bs b → IsUnder (children s) (Operation root) (BasicBlock b)
      pub all : (b : Ptr BlockKind) → IsUnder (children s) (Operation root) (BasicBlock b) → Has bs b
      pub once : Distinct bs

  -- some uses of blocks are of successors of live operations
  abbrev pub AreOfSuccessors : ContextView K A T → List (Use (Ptr BlockKind)) → Type 0
  AreOfSuccessors s us = (u : Use (Ptr BlockKind)) → Has us u →
      IsLive s (Operation u.op) × (u.index < num_successors s u.op)

  -- how many arguments blocks have in all
  abbrev pub num_arguments : ContextView K A T → List (Ptr BlockKind) → ℕ
  num_arguments s bs = sum_by (λ b. length (arg_types_of s b)) bs

  -- the place of an argument of a block that nothing uses; none where each is used
  abbrev pub IsUnused : ContextView K A T → Ptr BlockKind → Option ℕ → Type 0
  IsUnused s b None = (i : ℕ) → i < length (arg_types_of s b) → HasUses s (value_at (Block b) i)
  IsUnused s b (Some i) = (i < length (arg_types_of s b)) × (HasUses s (value_at (Block b) i) → ⊥)

  module _ (removes : ℕ → OpView K A → Bool) (forwards : ℕ → OpView K A → Option Places) (s : ContextView K A T) where
    -- the place of an argument of a block that can be dropped; none where none can
    abbrev pub CanGo : Ptr BlockKind → Option ℕ → Type 0
    CanGo b None = (i : ℕ) → CanDrop removes forwards s b i → ⊥
    CanGo b (Some i) = CanDrop removes forwards s b i

    -- an argument was found among blocks that can be dropped
    pub record IsFound (bs : List (Ptr BlockKind)) (found : Found) : Type 0 where
      pub at : slice_get bs found.at ≡ Some found.block
      pub can : CanDrop removes forwards s found.block found.place

    -- an argument was found among blocks, or none can be dropped
    abbrev pub IsSearched : List (Ptr BlockKind) → Option Found → Type 0
    IsSearched bs None = (b : Ptr BlockKind) → Has bs b → (i : ℕ) → CanDrop removes forwards s b i → ⊥
    IsSearched bs (Some found) = IsFound bs found
