-- How the rules of counts are refused: at the operation's location, with the number that is asked for and the one that
-- is there.
use Rattle.std.specs.Prelude.{◌≡◌, ℕ}
use Rattle.plir_core.specs.declared.ptr.Ptr.{Ptr}
use Rattle.plir_core.specs.declared.ptr.Operation.{Operation as OperationKind}
use Rattle.plir_core.specs.ContextView.{ContextView}
use Rattle.plir_data.specs.declared.location.VerifyErr.{VerifyErr}
use Rattle.plir_iface.specs.Counts.{num_regions, num_results, num_operands}
use Rattle.plir_iface.specs.Verdict.{IsRefusal}
use Rattle.plir_iface.specs.declared.counts.NRegionsVerifyErr.{NRegionsVerifyErr}
use Rattle.plir_iface.specs.declared.counts.AtMostNRegionVerifyErr.{AtMostNRegionVerifyErr}
use Rattle.plir_iface.specs.declared.counts.NResultsVerifyErr.{NResultsVerifyErr}
use Rattle.plir_iface.specs.declared.counts.AtMostNResultsVerifyErr.{AtMostNResultsVerifyErr}
use Rattle.plir_iface.specs.declared.counts.AtLeastNResultsVerifyErr.{AtLeastNResultsVerifyErr}
use Rattle.plir_iface.specs.declared.counts.NOpdsVerifyErr.{NOpdsVerifyErr}
use Rattle.plir_iface.specs.declared.counts.AtMostNOpdsVerifyErr.{AtMostNOpdsVerifyErr}
use Rattle.plir_iface.specs.declared.counts.AtLeastNOpdsVerifyErr.{AtLeastNOpdsVerifyErr}

module _ {K A T : Type 0} (n : ℕ) (s : ContextView K A T) (op : Ptr OperationKind) where
  abbrev pub IsNRegionsRefusal : VerifyErr NRegionsVerifyErr → Type 0
  IsNRegionsRefusal = IsRefusal s op (λ e. (e.0 ≡ n) × (e.1 ≡ num_regions s op))

  abbrev pub IsAtMostNRegionsRefusal : VerifyErr AtMostNRegionVerifyErr → Type 0
  IsAtMostNRegionsRefusal = IsRefusal s op (λ e. (e.0 ≡ n) × (e.1 ≡ num_regions s op))

  abbrev pub IsNResultsRefusal : VerifyErr NResultsVerifyErr → Type 0
  IsNResultsRefusal = IsRefusal s op (λ e. (e.0 ≡ n) × (e.1 ≡ num_results s op))

  abbrev pub IsAtMostNResultsRefusal : VerifyErr AtMostNResultsVerifyErr → Type 0
  IsAtMostNResultsRefusal = IsRefusal s op (λ e. (e.0 ≡ n) × (e.1 ≡ num_results s op))

  abbrev pub IsAtLeastNResultsRefusal : VerifyErr AtLeastNResultsVerifyErr → Type 0
  IsAtLeastNResultsRefusal = IsRefusal s op (λ e. (e.0 ≡ n) × (e.1 ≡ num_results s op))

  abbrev pub IsNOpdsRefusal : VerifyErr NOpdsVerifyErr → Type 0
  IsNOpdsRefusal = IsRefusal s op (λ e. (e.0 ≡ n) × (e.1 ≡ num_operands s op))

  abbrev pub IsAtMostNOpdsRefusal : VerifyErr AtMostNOpdsVerifyErr → Type 0
  IsAtMostNOpdsRefusal = IsRefusal s op (λ e. (e.0 ≡ n) × (e.1 ≡ num_operands s op))

  abbrev pub IsAtLeastNOpdsRefusal : VerifyErr AtLeastNOpdsVerifyErr → Type 0
  IsAtLeastNOpdsRefusal = IsRefusal s op (λ e. (e.0 ≡ n) × (e.1 ≡ num_operands s op))
