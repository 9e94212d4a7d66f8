-- How the rule of segments is refused.
use Rattle.std.specs.Prelude.{◌≡◌, ◌≢◌, ℕ, length, sum, Option, Some, None}
use Rattle.plir_core.specs.declared.ptr.Ptr.{Ptr}
use Rattle.plir_core.specs.declared.ptr.Operation.{Operation as OperationKind}
use Rattle.plir_core.specs.ContextView.{ContextView, operands_of}
use Rattle.plir_data.specs.declared.location.VerifyErr.{VerifyErr}
use Rattle.plir_iface.specs.Verdict.{IsRefusal}
use Rattle.plir_flow.specs.Segments.{sizes_under, sizes_of, num_segments, IsSegmented}
use Rattle.plir_flow.specs.declared.segments.OperandSegmentInterfaceVerifyErr.{OperandSegmentInterfaceVerifyErr}
use Rattle.plir_flow.specs.declared.segments.OperandSegmentInterfaceVerifyErr.TheVariants.{OperandSegmentSizesAttrErr}
use Rattle.plir_flow.specs.declared.segments.OperandSegmentInterfaceVerifyErr.TheVariants.{
  OperandSegmentSizesTotalMismatchErr,
}
use Rattle.plir_flow.specs.declared.segments.OperandSegmentInterfaceVerifyErr.TheVariants.{SegmentCountMismatch}

-- There are no sizes; or their sum is another number than that of the operands; or there are right sizes, but not as
-- many as are expected.
abbrev pub IsSegmentFault : {K A T : Type 0} → (expected : Option ℕ) → ContextView K A T → Ptr OperationKind →
    OperandSegmentInterfaceVerifyErr → Type 0
IsSegmentFault x s op OperandSegmentSizesAttrErr = sizes_under s op ≡ None
IsSegmentFault x s op (OperandSegmentSizesTotalMismatchErr total operands) =
    (sizes_under s op ≡ Some (sizes_of s op)) × (total ≡ sum (sizes_of s op)) × (operands ≡ length (operands_of s op))
    × (total ≢ operands)
IsSegmentFault x s op (SegmentCountMismatch expected found) = IsSegmented s op × (x ≡ Some expected) ×
    (found ≡ num_segments s op) × (found ≢ expected)

-- the rule of segments is refused with its fault, at the operation's location
abbrev pub IsSegmentsRefusal : {K A T : Type 0} → (expected : Option ℕ) → ContextView K A T → Ptr OperationKind →
    VerifyErr OperandSegmentInterfaceVerifyErr → Type 0
IsSegmentsRefusal x s op = IsRefusal s op (IsSegmentFault x s op)
