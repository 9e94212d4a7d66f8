-- Calls that were inlined one after another.
use Rattle.std.specs.Prelude.{◌≡◌, ℕ, ◌+◌, ◌-◌, ◌≤◌, ◌<◌, Bool, true, false, List, [], ◌∷◌, length}
use Rattle.std.specs.Prelude.{Option}
use Rattle.plir_core.specs.declared.ptr.Ptr.{Ptr}
use Rattle.plir_core.specs.declared.ptr.Operation.{Operation as OperationKind}
use Rattle.plir_core.specs.declared.ptr.BasicBlock.{BasicBlock as BlockKind}
use Rattle.plir_core.specs.declared.ptr.IRNode.TheVariants.{Operation, BasicBlock}
use Rattle.plir_core.specs.Contents.{OpView}
use Rattle.plir_core.specs.ContextView.{ContextView, children}
use Rattle.plir_core.specs.Changes.{SameLive}
use Rattle.plir_core.specs.Room.{IsFullFor}
use Rattle.plir_copies.specs.Room.{tree_count}
use Rattle.plir_walk.specs.Tree.{IsUnder}
use Rattle.plir_core.specs.declared.arena.making.NodeErr.{NodeErr}
use Rattle.plir_core.specs.declared.arena.making.NodeErr.TheVariants as nodes
use Rattle.plir_builtin.specs.declared.symbol_table_err.SymbolTableErr.{SymbolTableErr}
use Rattle.plir_builtin.specs.declared.symbol_table_err.SymbolTableErr.TheVariants as tables
use Rattle.plir_flow.specs.Branches.{Range as Places}
use Rattle.plir_flow_sets.specs.Calls.{CallView}
use Rattle.plir_inline.specs.Inlined.{IsInlined}
use Rattle.plir_inliner.specs.declared.errors.InlineErr.{InlineErr}
use Rattle.plir_inliner.specs.declared.errors.InlineErr.TheVariants.{Memory, Table, TooManyNodes}
use Rattle.plir_inliner.specs.declared.candidates.Step.{Step}
use Rattle.plir_inliner.specs.declared.tally.Inlining.{Inlining}
use Rattle.plir_inliner.specs.declared.tally.Tally.{Tally}
use Rattle.plir_inliner.specs.Calls.{CanInlineCall}
use Rattle.plir_inliner.specs.Listed.{IsCost}
use Rattle.plir_inliner.specs.Meaning.{IsMeaningRefusal}

-- what a refusal of the context, and one of a table, is told as
abbrev pub of_nodes : NodeErr → InlineErr
of_nodes nodes.Memory = Memory
of_nodes nodes.TooManyNodes = TooManyNodes

abbrev pub of_table : SymbolTableErr → InlineErr
of_table tables.Memory = Memory
of_table e = Table e

-- what steps cost in all
abbrev pub costs : List Step → ℕ
costs [] = 0
costs (x ∷ xs) = x.cost + costs xs

-- an operation stands at or below the root, and is another one
pub record IsBelow {K A T : Type 0} (s : ContextView K A T) (root p : Ptr OperationKind) : Type 0 where
  pub under : IsUnder (children s) (Operation root) (Operation p)
  pub other : p ≡ root → ⊥

module _ {K A T : Type 0} (own_symbol own_table : K → Bool) (call_of : OpView K A → Option CallView)
    (returned : OpView K A → Option Places) where
  -- a step is ready: its call can be inlined, by a copy of its block, which costs what it says
  pub record CanStep (s : ContextView K A T) (x : Step) : Type 0 where
    pub can : CanInlineCall own_symbol own_table call_of returned s x.call x.block
    pub cost : IsCost s x.block x.cost

  module _ (root : Ptr OperationKind) where
    -- and its call stands below the root
    pub record IsReady (s : ContextView K A T) (x : Step) : Type 0 where
      pub below : IsBelow s root x.call
      pub can : CanStep s x

    -- From s to t calls below the root were inlined, one after another, each of which could be when its turn came, and
    -- nothing else was done.
    abbrev pub AreSteps : ContextView K A T → List Step → ContextView K A T → Type 0
    AreSteps s [] t = t ≡ s
    AreSteps s (x ∷ xs) t = (u : ContextView K A T) × IsReady s x × IsInlined s u x.call x.block × AreSteps u xs t

    -- no call below the root is left that can be inlined
    abbrev pub NoneLeft : ContextView K A T → Type 0
    NoneLeft s = (call : Ptr OperationKind) (b : Ptr BlockKind) → IsBelow s root call →
        CanInlineCall own_symbol own_table call_of returned s call b → ⊥

    -- one is, but costs more than what is left of the budget
    abbrev pub IsOverBudget : ContextView K A T → (left : ℕ) → Type 0
    IsOverBudget s left = (x : Step) × IsReady s x × (left < x.cost)

    -- So many calls were inlined from s to t, and so many operations copied, at most as many as the budget has; it was
    -- stopped by the budget, or no call is left that can be inlined.
    pub record IsInlining (s t : ContextView K A T) (budget : ℕ) (done : Inlining) : Type 0 where
      pub steps : List Step
      pub went : AreSteps s steps t
      pub calls : done.calls ≡ length steps
      pub copied : done.copied ≡ costs steps
      pub within : done.copied ≤ budget
      pub whole : done.stopped ≡ false → NoneLeft t
      pub stopped : done.stopped ≡ true → IsOverBudget t (budget - done.copied)

    -- Why a step was refused: a call can be inlined, and there is no room for the copy; or what a call by a name means
    -- is not told; or memory was.
    abbrev pub IsStepRefusal : ContextView K A T → InlineErr → Type 0
    IsStepRefusal s Memory = Unit {0}
    IsStepRefusal s TooManyNodes = (x : Step) × IsReady s x ×
        IsFullFor s.nodes (tree_count s.nodes (BasicBlock x.block))
    IsStepRefusal s (Table e) = (call : Ptr OperationKind) × IsBelow s root call ×
        IsMeaningRefusal own_symbol own_table call_of s call (Table e)

    -- Calls were inlined from s on, within the budget, and then a step was refused, by which no live node has changed.
    pub record IsCutShort (s t : ContextView K A T) (budget : ℕ) (e : InlineErr) : Type 0 where
      pub before : ContextView K A T
      pub steps : List Step
      pub went : AreSteps s steps before
      pub within : costs steps ≤ budget
      pub refused : IsStepRefusal before e
      pub same : SameLive before t

    -- the calls inlined from s to t take one count to another
    pub record IsPart (s t : ContextView K A T) (m m' : Tally) : Type 0 where
      pub steps : List Step
      pub went : AreSteps s steps t
      pub calls : m'.calls ≡ m.calls + length steps
      pub left : m.left ≡ m'.left + costs steps
