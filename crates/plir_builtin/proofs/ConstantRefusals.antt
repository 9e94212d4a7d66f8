-- Refusals of constants are reported as their faults.
use Rattle.std.proofs.Common.{◌≡◌, ℕ, List, Option, Some, None, refl, sym, ap, subst, ◌∙◌}
use Rattle.std.specs.Prelude.{◌≢◌, IsSome, slice_get}
use Rattle.std.proofs.lemmas.Option.{none-some, same_Some}
use Rattle.plir_data.specs.OwnParts.{Part}
use Rattle.plir_data.specs.AttrCalls.{attr_type}
use Rattle.plir_data.specs.AttrView.{AttrView}
use Rattle.plir_data.specs.declared.location.VerifyErr.{VerifyErr}
use Rattle.plir_data.specs.declared.location.VerifyErr.TheVariants.{Refused, Memory}
use Rattle.plir_core.specs.declared.ptr.Ptr.{Ptr}
use Rattle.plir_core.specs.declared.ptr.Operation.{Operation as OperationKind}
use Rattle.plir_core.specs.ContextView.{ContextView, result_types_of}
use Rattle.plir_iface.specs.Verdict.{IsRefusalMemoryAside}
use Rattle.plir_builtin.specs.BuiltinOps.{HasConstantValue, value_of}
use Rattle.plir_builtin.specs.ConstantFaults.{IsConstantFault, ReportsMismatch, ReportsUntyped}
use Rattle.plir_builtin.specs.declared.constant_op.ConstantOpVerifyErr.{ConstantOpVerifyErr}
use Rattle.plir_builtin.specs.declared.constant_op.ConstantOpVerifyErr.TheVariants.{MissingValue, ValueNotTyped}
use Rattle.plir_builtin.specs.declared.constant_op.ConstantOpVerifyErr.TheVariants.{ResultTypeMismatch}

-- what is reported by one word is reported by a wider one
pub told_wider : {K A T E : Type 0} (s : ContextView K A T) (op : Ptr OperationKind) (P Q : E → Type 0)
    → ((e : E) → P e → Q e) → (r : VerifyErr E) → IsRefusalMemoryAside s op P r → IsRefusalMemoryAside s op Q r
told_wider s op P Q wider (Refused loc err) h = (h.0, wider err h.1)
told_wider s op P Q wider Memory h = tt

module _ {K A T : Type 0} (attr_own_id : A → List ℕ) (attr_own_type : A → Option ℕ) (own_id : T → List ℕ)
    (own_body : T → List Part) (s : ContextView K A T) (op : Ptr OperationKind) (x : AttrView A)
    (there : value_of s op ≡ Some x) where
  pub untyped_fault : attr_type attr_own_type x ≡ None → (e : ConstantOpVerifyErr) → ReportsUntyped attr_own_id x e
      → IsConstantFault attr_own_id attr_own_type own_id own_body s op e
  untyped_fault none MissingValue reported = absurd reported
  untyped_fault none (ValueNotTyped id) reported = (x, (there, none, reported))
  untyped_fault none (ResultTypeMismatch g w) reported = absurd reported

  pub mismatch_fault : (t u : ℕ) → attr_type attr_own_type x ≡ Some t → slice_get (result_types_of s op) 0 ≡ Some u
      → t ≢ u → (e : ConstantOpVerifyErr) → ReportsMismatch own_id own_body s.types t u e
      → IsConstantFault attr_own_id attr_own_type own_id own_body s op e
  mismatch_fault t u typed result other MissingValue reported = absurd reported
  mismatch_fault t u typed result other (ValueNotTyped id) reported = absurd reported
  mismatch_fault t u typed result other (ResultTypeMismatch g w) reported =
      (x, (t, u, (there, typed, result, other, reported)))

-- a value without a type, or of another type than the result's, breaks the rule of constants
module _ {K A T : Type 0} (own_type : A → Option ℕ) (s : ContextView K A T) (op : Ptr OperationKind) (x : AttrView A)
    (there : value_of s op ≡ Some x) where
  type-of : (h : HasConstantValue own_type s op) → attr_type own_type x ≡ Some h.type
  type-of h = ap (attr_type own_type) (same_Some x h.value (sym there ∙ h.there)) ∙ h.typed

  pub untyped_broken : attr_type own_type x ≡ None → HasConstantValue own_type s op → ⊥
  untyped_broken none h = none-some h.type (sym none ∙ type-of h)

  pub mismatch_broken : (t u : ℕ) → attr_type own_type x ≡ Some t → slice_get (result_types_of s op) 0 ≡ Some u
      → t ≢ u → HasConstantValue own_type s op → ⊥
  mismatch_broken t u typed result other h =
      other (same_Some t h.type (sym typed ∙ type-of h) ∙ sym (same_Some u h.type (sym result ∙ h.result)))

  pub value_there : IsSome (value_of s op)
  value_there = subst IsSome (sym there) refl
