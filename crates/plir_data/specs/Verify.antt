-- What a verifier answers.
use Rattle.std.specs.Prelude.{◌≡◌, Bool, true, false, Result, Ok, Err}
use Rattle.plir_data.specs.declared.location.Location.TheVariants.{Unknown}
use Rattle.plir_data.specs.declared.location.VerifyErr.{VerifyErr}
use Rattle.plir_data.specs.declared.location.VerifyErr.TheVariants.{Refused, Memory}

-- The verifier accepts only what is valid, and refuses only what is not, by one of its refusals and at no known place;
-- or memory is wanted.
abbrev pub IsVerdict : {E : Type 0} → (valid : Bool) → (refusal : E → Type 0) → Result (Unit {0}) (VerifyErr E) → Type 0
IsVerdict valid refusal (Ok _) = valid ≡ true
IsVerdict valid refusal (Err (Refused loc err)) = (valid ≡ false) × (loc ≡ Unknown) × refusal err
IsVerdict valid refusal (Err Memory) = Unit {0}

-- The same of a verifier that takes no memory: it never answers that memory is wanted.
abbrev pub IsSureVerdict : {E : Type 0} → (valid : Bool) → (refusal : E → Type 0) → Result (Unit {0}) (VerifyErr E) →
    Type 0
IsSureVerdict valid refusal (Err Memory) = ⊥
IsSureVerdict valid refusal answer = IsVerdict valid refusal answer
