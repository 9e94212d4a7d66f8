use Rattle.std.proofs.Common.{◌≡◌, ap, ◌∙◌, Some, option_map}
use Rattle.std.proofs.lemmas.Result.{err_from_is_err_and}
use Rattle.plir_attr_text.specs.laws.Quoted.{stops, ends, goes_on, unit-shorter}
use Rattle.plir_attr_text.specs.{Strings.unit_at, Units.bytes_of, laws.StepLaws.done}
use Rattle.plir_attr_text.proofs.strings.read_quoted.Goals as goal

pub returns-in_err-step : goal.returns-in_err-step
returns-in_err-step c =
    let p = err_from_is_err_and c.from_residual.result c.from_residual.ensures.1 in
    rw (p.1, p.2) (stops _ _ _ c.in_err-step.field-0.0 c.steps.invariant c.in_err-step.ensures)

pub returns-in_default : goal.returns-in_default
returns-in_default c =
    ends _ _ _ c.in_ok-step.behind.now c.steps.invariant
    (c.in_ok-step.ensures ∙ ap (λ o. done (option_map bytes_of o, c.in_ok-step.behind.now)) c.in_default.is)

pub steps-smaller : goal.steps-smaller
steps-smaller c =
    let e : unit_at c.steps.rest.now ≡ done (Some (bytes_of c.in-Some.step), c.in_ok-step.behind.now) =
    c.in_ok-step.ensures ∙ ap (λ o. done (option_map bytes_of o, c.in_ok-step.behind.now)) c.in-Some.is in
    unit-shorter c.steps.rest.now (Some (bytes_of c.in-Some.step), c.in_ok-step.behind.now) e

pub steps-preserved : goal.steps-preserved
steps-preserved c =
    let e : unit_at c.steps.rest.now ≡ done (Some (bytes_of c.in-Some.step), c.in_ok-step.behind.now) =
    c.in_ok-step.ensures ∙ ap (λ o. done (option_map bytes_of o, c.in_ok-step.behind.now)) c.in-Some.is in
    rw c.in_ok-put_step.ensures (goes_on _ _ _ (bytes_of c.in-Some.step) c.in_ok-step.behind.now c.steps.invariant e)
