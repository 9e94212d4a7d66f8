-- What a verifier answers.
use Rattle.std.specs.Prelude.{◌≡◌, Some}
use Rattle.plir_data.specs.declared.location.VerifyErr.{VerifyErr}
use Rattle.plir_data.specs.declared.location.VerifyErr.TheVariants.{Refused, Memory}
use Rattle.plir_core.specs.declared.ptr.Ptr.{Ptr}
use Rattle.plir_core.specs.declared.ptr.Operation.{Operation as OperationKind}
use Rattle.plir_core.specs.ContextView.{ContextView, location_of}

-- The verifier of an operation refused, at the operation's location, by an error that P holds for.
abbrev pub IsRefusal : {K A T E : Type 0} → ContextView K A T → Ptr OperationKind → (P : E → Type 0) → VerifyErr E
    → Type 0
IsRefusal s op P (Refused loc err) = (location_of s op ≡ Some loc) × P err
IsRefusal s op P Memory = ⊥

-- The same, or memory was refused: of that this word says nothing more. Where a verifier tells what it may want memory
-- for, a clause of its own does.
abbrev pub IsRefusalMemoryAside : {K A T E : Type 0} → ContextView K A T → Ptr OperationKind → (P : E → Type 0) →
    VerifyErr E → Type 0
IsRefusalMemoryAside s op P (Refused loc err) = (location_of s op ≡ Some loc) × P err
IsRefusalMemoryAside s op P Memory = Unit {0}
