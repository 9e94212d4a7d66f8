use Rattle.std.proofs.Common.{inl, inr, lit<, refl, subst}
use Rattle.std.proofs.lemmas.Result.{err_from_is_err_and}
use Rattle.std.proofs.lemmas.Str.Pattern.{split_parts}
use Rattle.plir_pipelines.specs.Settings.{IsCutAt}
use Rattle.plir_pipelines.proofs.Written.{settings-refused}
use Rattle.plir_pipelines.proofs.pipeline.read_step.Goals as goal

pub returns-in-None-clause-read : goal.returns-in-None-clause-read
returns-in-None-clause-read c =
    let parts =
    split_parts 123 c.trim_ascii-step.result.now c.split_once.result c.split_once.ensures.cases (lit< tt) in (
      c.trim_ascii-step.result.now,
      c.trim_ascii-step.ensures.value,
      inl (rw c.in-None.is at parts, refl, c.new.ensures.items),
    )

pub returns-in_err-inside-in-Some-clause-refused : goal.returns-in_err-inside-in-Some-clause-refused
returns-in_err-inside-in-Some-clause-refused c =
    let parts =
    split_parts 123 c.trim_ascii-step.result.now c.split_once.result c.split_once.ensures.cases (lit< tt) in
    let p = err_from_is_err_and c.from_residual.result c.from_residual.ensures.1 in
    rw (p.1, p.2, c.in_err-inside-in-Some.ensures.unclosed.0) (
      c.trim_ascii-step.ensures.value,
      (
        c.in-Some.front.now,
        c.in-Some.rest.now,
        rw c.in-Some.is at parts,
        c.in_err-inside-in-Some.ensures.unclosed.1,
      ),
    )

pub returns-in_err-settings-in-Some-clause-refused : goal.returns-in_err-settings-in-Some-clause-refused
returns-in_err-settings-in-Some-clause-refused c =
    let parts =
    split_parts 123 c.trim_ascii-step.result.now c.split_once.result c.split_once.ensures.cases (lit< tt) in
    let p = err_from_is_err_and c.from_residual-in_err-settings-in-Some.result
    c.from_residual-in_err-settings-in-Some.ensures.1 in
    rw (p.1, p.2) (settings-refused c.args.word.now c.trim_ascii-step.result.now c.in-Some.front.now
    c.in_ok-inside-in-Some.field-0.now c.trim_ascii-step.ensures.value
    (subst (λ z. IsCutAt 123 c.trim_ascii-step.result.now c.in-Some.front.now z) c.in_ok-inside-in-Some.ensures.closed
    (rw c.in-Some.is at parts)) c.in_err-settings-in-Some.field-0.0 c.in_err-settings-in-Some.ensures.refused)

pub returns-in_ok-settings-in-Some-clause-read : goal.returns-in_ok-settings-in-Some-clause-read
returns-in_ok-settings-in-Some-clause-read c =
    let parts =
    split_parts 123 c.trim_ascii-step.result.now c.split_once.result c.split_once.ensures.cases (lit< tt) in (
      c.trim_ascii-step.result.now,
      c.trim_ascii-step.ensures.value,
      inr (
        c.in-Some.front.now,
        c.in_ok-inside-in-Some.field-0.now,
        subst (λ z. IsCutAt 123 c.trim_ascii-step.result.now c.in-Some.front.now z)
            c.in_ok-inside-in-Some.ensures.closed (rw c.in-Some.is at parts),
        c.trim_ascii.ensures.value,
        c.in_ok-settings-in-Some.ensures.read,
      ),
    )
