-- The verdict on a list, by those on its items.
use Rattle.std.proofs.Common.{◌≡◌, Bool, true, false, ◌&&◌, Err, sym, true≢false}
use Rattle.std.proofs.Common.{Result}
use Rattle.plir_data.specs.AttrVerify.{Whether}
use Rattle.plir_data.specs.Verify.{IsVerdict}
use Rattle.plir_data.specs.declared.location.VerifyErr.{VerifyErr}
use Rattle.plir_data.specs.declared.location.VerifyErr.TheVariants.{Refused, Memory}

module _ {E : Type 0} (first rest : E → Type 0) (rest_valid : Bool) where
  -- behind an item that is valid, the verdict is that on the rest
  pub behind_valid : (first_valid : Bool) (r : Result (Unit {0}) (VerifyErr E)) → first_valid ≡ true → IsVerdict
      rest_valid rest r → IsVerdict (first_valid && rest_valid) (λ err. Whether first_valid (rest err) (first err)) r
  behind_valid true r e v = v
  behind_valid false r e v = absurd (true≢false (sym e))

  -- what refuses the first item refuses the list
  pub refused_first : (first_valid : Bool) (e : VerifyErr E) → IsVerdict first_valid first (Err e) → IsVerdict
      (first_valid && rest_valid) (λ err. Whether first_valid (rest err) (first err)) (Err e)
  refused_first first_valid Memory v = v
  refused_first true (Refused loc err) v = absurd (true≢false v.0)
  refused_first false (Refused loc err) v = v
