-- How constants break their rule, and how that is reported.
use Rattle.std.specs.Prelude.{◌≡◌, ◌≢◌, ℕ, List, Option, None, Some, slice_get, string_bytes}
use Rattle.plir_data.specs.OwnParts.{Part}
use Rattle.plir_data.specs.AttrCalls.{attr_id, attr_type}
use Rattle.plir_data.specs.AttrView.{AttrView}
use Rattle.plir_data.specs.Types.{TypeView}
use Rattle.plir_data.specs.TypeText.{type_text}
use Rattle.plir_core.specs.declared.ptr.Ptr.{Ptr}
use Rattle.plir_core.specs.declared.ptr.Operation.{Operation as OperationKind}
use Rattle.plir_core.specs.ContextView.{ContextView, result_types_of}
use Rattle.plir_builtin.specs.BuiltinOps.{value_of}
use Rattle.plir_builtin.specs.declared.constant_op.ConstantOpVerifyErr.{ConstantOpVerifyErr}
use Rattle.plir_builtin.specs.declared.constant_op.ConstantOpVerifyErr.TheVariants.{MissingValue, ValueNotTyped}
use Rattle.plir_builtin.specs.declared.constant_op.ConstantOpVerifyErr.TheVariants.{ResultTypeMismatch}

-- the error reports the id of an attribute without a type
abbrev pub ReportsUntyped : {A : Type 0} → (own_id : A → List ℕ) → AttrView A → ConstantOpVerifyErr → Type 0
ReportsUntyped own_id x (ValueNotTyped id) = string_bytes id ≡ attr_id own_id x
ReportsUntyped own_id x _ = ⊥

-- the error reports the texts of two types
abbrev pub ReportsMismatch : {T : Type 0} → (own_id : T → List ℕ) (own_body : T → List Part) →
    List (TypeView T) → ℕ → ℕ → ConstantOpVerifyErr → Type 0
ReportsMismatch own_id own_body types given wanted (ResultTypeMismatch g w) =
    (string_bytes g ≡ type_text own_id own_body types given) × (string_bytes w ≡ type_text own_id own_body types wanted)
ReportsMismatch own_id own_body types given wanted _ = ⊥

-- There is no value; or there is one without a type; or it has one, and the result has another.
abbrev pub IsConstantFault : {K A T : Type 0} → (attr_own_id : A → List ℕ) (attr_own_type : A → Option ℕ)
    (own_id : T → List ℕ) (own_body : T → List Part)
    → ContextView K A T → Ptr OperationKind → ConstantOpVerifyErr → Type 0
IsConstantFault {K} {A} {T} attr_own_id attr_own_type own_id own_body s op MissingValue = value_of s op ≡ None
IsConstantFault {K} {A} {T} attr_own_id attr_own_type own_id own_body s op (ValueNotTyped id) =
    (x : AttrView A) × ((value_of s op ≡ Some x) × (attr_type attr_own_type x ≡ None) ×
    ReportsUntyped attr_own_id x (ValueNotTyped id))
IsConstantFault {K} {A} {T} attr_own_id attr_own_type own_id own_body s op (ResultTypeMismatch g w) =
    (x : AttrView A) × ((t u : ℕ) × ((value_of s op ≡ Some x) × (attr_type attr_own_type x ≡ Some t) ×
    (slice_get (result_types_of s op) 0 ≡ Some u) × (t ≢ u) ×
    ReportsMismatch own_id own_body s.types t u (ResultTypeMismatch g w)))
