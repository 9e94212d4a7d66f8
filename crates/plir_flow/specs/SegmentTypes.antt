-- The rules of the types in one segment, and how they are refused.
use Rattle.std.specs.Prelude.{◌≡◌, ◌<◌, ◌≤◌, ℕ, List, length, map, Bool, Option, string_bytes}
use Rattle.plir_data.specs.OwnParts.{Part}
use Rattle.plir_data.specs.Types.{TypeView}
use Rattle.plir_data.specs.declared.location.VerifyErr.{VerifyErr}
use Rattle.plir_core.specs.declared.ptr.Ptr.{Ptr}
use Rattle.plir_core.specs.declared.ptr.Operation.{Operation as OperationKind}
use Rattle.plir_core.specs.ContextView.{ContextView, type_of_value}
use Rattle.plir_iface.specs.Sides.{type_in}
use Rattle.plir_iface.specs.Counts.{operand_types}
use Rattle.plir_iface.specs.Verdict.{IsRefusal, IsRefusalMemoryAside}
use Rattle.plir_iface.specs.TypeRules.{EachPasses, FailsFirst}
use Rattle.plir_iface.specs.TypeRefusals.{id_in, text_in}
use Rattle.plir_iface.specs.declared.type_errors.TypeRuleErr.{TypeRuleErr}
use Rattle.plir_iface.specs.declared.type_errors.TypeRuleErr.TheVariants.{TooFew, WrongType}
use Rattle.plir_iface.specs.declared.type_errors.TypeInterfaceImplsErr.{TypeInterfaceImplsErr}
use Rattle.plir_iface.specs.declared.type_errors.TypeInterfaceImplsErr.TheVariants.{Segment}
use Rattle.plir_flow.specs.Segments.{segment_at, segments_of, num_segments}
use Rattle.plir_flow.specs.declared.segment_types.SegmentNOfTypeError.{SegmentNOfTypeError}
use Rattle.plir_flow.specs.declared.segment_types.SegmentNOfTypeError.TheVariants.{SegmentNotFound, UnexpectedType}

module _ {K A T : Type 0} where
  -- the types of the operands in a segment, in order; each is there, since operands are live
  abbrev pub segment_types : ContextView K A T → Ptr OperationKind → ℕ → List (Option ℕ)
  segment_types s op n = map (type_of_value s) (segment_at (segments_of s op) n)

  module _ (passes : TypeView T → Bool) (s : ContextView K A T) (op : Ptr OperationKind) (n : ℕ) where
    -- The rules, each named after its interface: segment n is there, and all its types pass.
    abbrev pub HasSegmentNOfType : Type 0
    HasSegmentNOfType = (n < num_segments s op) × EachPasses passes s (segment_types s op n)

    abbrev pub HasSegmentNImplsTy : Type 0
    HasSegmentNImplsTy = (n < num_segments s op) × EachPasses passes s (segment_types s op n)

    -- the index is the first in the segment whose type fails
    abbrev pub FailsFirstIn : ℕ → Type 0
    FailsFirstIn i = FailsFirst passes s (λ k. k < length (segment_types s op n)) (segment_types s op n) i

    -- the operand with that type stands at an index among all operands
    abbrev pub IsFirstFailingOperand : ℕ → Type 0
    IsFirstFailingOperand p = (i : ℕ) × (FailsFirstIn i ×
        (type_in (segment_types s op n) i ≡ type_in (operand_types s op) p))

    module _ (name : List ℕ) (own_id : T → List ℕ) where
      -- There is no segment n; or it is there, and the text is that of the first type in it that fails.
      abbrev pub IsSegmentOfOtherKind : (own_body : T → List Part) → SegmentNOfTypeError → Type 0
      IsSegmentOfOtherKind own_body (SegmentNotFound i) = (i ≡ n) × (num_segments s op ≤ n)
      IsSegmentOfOtherKind own_body (UnexpectedType wanted found) =
          (n < num_segments s op) × (wanted.now ≡ name) ×
          ((i : ℕ) × (FailsFirstIn i × (string_bytes found ≡ text_in own_id own_body s (segment_types s op n) i)))

      -- There is no segment n; or it is there, and the id is that of the first type in it that fails.
      abbrev pub IsSegmentWithout : TypeRuleErr SegmentNOfTypeError TypeInterfaceImplsErr → Type 0
      IsSegmentWithout (TooFew (SegmentNotFound i)) = (i ≡ n) × (num_segments s op ≤ n)
      IsSegmentWithout (WrongType (Segment i wanted found)) =
          (n < num_segments s op) × (i ≡ n) × (wanted.now ≡ name) ×
          ((k : ℕ) × (FailsFirstIn k × (found.now ≡ id_in own_id s (segment_types s op n) k)))
      IsSegmentWithout _ = ⊥

      -- How an operation breaks one of these rules: the refusal is at its location.
      abbrev pub IsSegmentNOfTypeRefusal : (own_body : T → List Part) → VerifyErr SegmentNOfTypeError →
          Type 0
      IsSegmentNOfTypeRefusal own_body = IsRefusalMemoryAside s op (IsSegmentOfOtherKind own_body)

      abbrev pub IsSegmentNImplsTyRefusal : VerifyErr (TypeRuleErr SegmentNOfTypeError TypeInterfaceImplsErr) → Type 0
      IsSegmentNImplsTyRefusal = IsRefusal s op IsSegmentWithout
