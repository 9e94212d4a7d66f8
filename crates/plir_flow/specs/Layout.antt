-- How the check of a layout refuses.
use Rattle.plir_data.specs.declared.location.VerifyErr.{VerifyErr}
use Rattle.plir_core.specs.declared.ptr.Ptr.{Ptr}
use Rattle.plir_core.specs.declared.ptr.Operation.{Operation as OperationKind}
use Rattle.plir_core.specs.ContextView.{ContextView}
use Rattle.plir_iface.specs.Verdict.{IsRefusalMemoryAside}

-- At the operation's location, where the layout isn't right, by an error that the implementer names; or memory was
-- refused.
abbrev pub IsLayoutRefusal : {K A T E : Type 0}
    → (right : ContextView K A T → Type 0) (reports : ContextView K A T → E → Type 0) →
    ContextView K A T → Ptr OperationKind → VerifyErr E → Type 0
IsLayoutRefusal right reports s op = IsRefusalMemoryAside s op (λ e. (right s → ⊥) × reports s e)
