-- How a round ends.
use Rattle.std.specs.Prelude.{ℕ, ◌<◌, Bool, Option}
use Rattle.plir_core.specs.declared.ptr.Ptr.{Ptr}
use Rattle.plir_core.specs.declared.ptr.Operation.{Operation as OperationKind}
use Rattle.plir_core.specs.Contents.{OpView}
use Rattle.plir_core.specs.ContextView.{ContextView}
use Rattle.plir_flow.specs.Branches.{Range as Places}
use Rattle.plir_flow_sets.specs.Calls.{CallView}
use Rattle.plir_inliner.specs.declared.rounds.Round.{Round}
use Rattle.plir_inliner.specs.declared.rounds.Round.TheVariants as rounds
use Rattle.plir_inliner.specs.Steps.{IsOverBudget, NoneLeft}

module _ {K A T : Type 0} (own_symbol own_table : K → Bool) (calls : OpView K A → Option CallView)
    (returned : OpView K A → Option Places) (root : Ptr OperationKind) where
  -- A round that began with so much of the budget ends: no call is left that can be inlined, or one costs more than
  -- what is left, or less is left than before.
  abbrev pub IsRoundEnd : ContextView K A T → (before left : ℕ) → Round → Type 0
  IsRoundEnd t before left rounds.NoneLeft = NoneLeft own_symbol own_table calls returned root t
  IsRoundEnd t before left rounds.OverBudget = IsOverBudget own_symbol own_table calls returned root t left
  IsRoundEnd t before left rounds.Again = left < before
