-- An error as that of another type.
use Rattle.std.specs.Prelude.{◌≡◌, Result, Ok, Err}
use Rattle.plir_data.specs.declared.location.VerifyErr.{VerifyErr}
use Rattle.plir_data.specs.declared.location.VerifyErr.TheVariants.{Refused, Memory}

-- A refusal stands at the same location, and its error is reported by another as R says; want of memory is reported as
-- such.
abbrev pub IsRefusalReportedAs : {A B : Type 0} → (R : A → B → Type 0) → VerifyErr A → VerifyErr B → Type 0
IsRefusalReportedAs R (Refused l a) (Refused m b) = (m ≡ l) × R a b
IsRefusalReportedAs R Memory Memory = Unit {0}
IsRefusalReportedAs R _ _ = ⊥

-- the same of answers: what is accepted stays so
abbrev pub IsReportedAs : {A B : Type 0} → (R : A → B → Type 0) → Result (Unit {0}) (VerifyErr A) →
    Result (Unit {0}) (VerifyErr B) → Type 0
IsReportedAs R (Ok u) (Ok v) = Unit {0}
IsReportedAs R (Err v) (Err w) = IsRefusalReportedAs R v w
IsReportedAs R _ _ = ⊥
