-- Verdicts of parts, as verdicts of the whole.
use Rattle.std.specs.Prelude.{Result, Ok, Err}
use Rattle.plir_data.specs.declared.location.VerifyErr.{VerifyErr}
use Rattle.plir_data.specs.declared.location.VerifyErr.TheVariants.{Refused, Memory}

-- a verdict, with its refusal as one of the whole
abbrev pub verdict_of : {E F : Type 0} → (whole : E → F) → Result (Unit {0}) (VerifyErr E) →
    Result (Unit {0}) (VerifyErr F)
verdict_of whole (Ok done) = Ok done
verdict_of whole (Err (Refused loc err)) = Err (Refused loc (whole err))
verdict_of whole (Err Memory) = Err Memory
