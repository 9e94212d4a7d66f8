-- What the pass that inlines says of itself.
use Rattle.std.specs.Prelude.{◌≡◌, ℕ, Bool, Option, codes}
use Rattle.plir_core.specs.declared.ptr.Ptr.{Ptr}
use Rattle.plir_core.specs.declared.ptr.Operation.{Operation as OperationKind}
use Rattle.plir_core.specs.Contents.{OpView}
use Rattle.plir_core.specs.ContextView.{ContextView}
use Rattle.plir_flow.specs.Branches.{Range as Places}
use Rattle.plir_flow_sets.specs.Calls.{CallView}
use Rattle.plir_pipelines.specs.Options.{OptionRule}
use Rattle.plir_inliner.specs.declared.errors.InlineErr.{InlineErr}
use Rattle.plir_inliner.specs.declared.errors.InlineErr.TheVariants as of_inlining
use Rattle.plir_inliner.specs.declared.tally.Inlining.{Inlining}
use Rattle.plir_inliner.specs.Steps.{IsCutShort, IsInlining}
use Rattle.plir_driver.specs.declared.pass_err.PassErr.{PassErr}
use Rattle.plir_driver.specs.declared.pass_err.PassErr.TheVariants.{NoTable, TooManyNodes, OutOfMemory}

-- the option that says how many operations may be copied
abbrev pub budget_rule : OptionRule
budget_rule = record { name = codes "budget"; least = 0; most = 1000000000; default = 1000 }

-- what an inlining reports, as a pass reports it
abbrev pub of_inliner : InlineErr → PassErr
of_inliner of_inlining.Memory = OutOfMemory
of_inliner of_inlining.TooManyNodes = TooManyNodes
of_inliner (of_inlining.Table e) = NoTable e

module _ {K A T : Type 0} (own_symbol own_table : K → Bool) (calls : OpView K A → Option CallView)
    (returned : OpView K A → Option Places) (budget : ℕ) (root : Ptr OperationKind) where
  -- From s to t calls below the root were inlined, one after another, of which at most as many operations were copied
  -- as the budget has; and no call is left that can be inlined, or one that costs more than is left of the budget.
  abbrev pub IsInlinedWithin : (s t : ContextView K A T) → Type 0
  IsInlinedWithin s t = (done : Inlining) × IsInlining own_symbol own_table calls returned root s t budget done

  -- A run over s is cut short: calls were inlined, within the budget, and then one could not be, as is told; or memory
  -- is wanting.
  abbrev pub IsInlineStop : ContextView K A T → PassErr → Type 0
  IsInlineStop s e = (why : InlineErr) × (e ≡ of_inliner why) ×
      ((t : ContextView K A T) × IsCutShort own_symbol own_table calls returned root s t budget why)
