-- Laws of refusals that a `?` passes on, proved here so that the crates above can cite them. No contract cites this
-- module.
use Rattle.std.proofs.Common.{◌≡◌, Result, Ok, Err, OnErr, subst, sym}
use Rattle.std.specs.Prelude.{IfErr, IsErrAnd}

module _ {T E : Type 0} where
  -- of the error that comes holds what holds of each that may
  pub if_err : {Q : E → Type 0} (P : E → Type 0) (r : Result T E) → IsErrAnd r Q → ((y : E) → Q y → P y) → IfErr r P
  if_err P (Ok x) h f = tt
  if_err P (Err e) h f = f e h

  -- of an error that is passed on as it is holds what holds of it
  pub passed_on : (P : E → Type 0) (r : Result T E) {e : E} → IsErrAnd r (λ y. y ≡ e) → P e → IfErr r P
  passed_on P r h p = if_err P r h (λ y q. subst P (sym q) p)

  -- what holds anyway holds where one comes
  pub on_err : {P : Type 0} (r : Result T E) → P → OnErr r P
  on_err (Ok x) p = tt
  on_err (Err e) p = p
