-- A refusal is the same, whatever would have been handed back.
use Rattle.std.proofs.Common.{◌≡◌, ap, Err, Ok, Result}

abbrev err-of : {A E : Type 0} → E → Result A E → E
err-of d (Ok a) = d
err-of d (Err e) = e

pub refused-as : {A B E : Type 0} {x y : E} → ◌≡◌ {A = Result A E} (Err x) (Err y) →
    ◌≡◌ {A = Result B E} (Err x) (Err y)
refused-as {A} {B} {E} {x} h = ap (λ r. Err (err-of x r)) h
