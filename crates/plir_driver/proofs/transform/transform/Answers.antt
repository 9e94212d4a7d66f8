use Rattle.std.proofs.Common.{IfErr, IfOk, OnOk, inl, inr, refl, subst, string_bytes, ap, sym, ◌∙◌}
use Rattle.std.proofs.lemmas.Result.{err_from_is_err_and}
use Rattle.plir_checks.specs.Comments.{blanked}
use Rattle.plir_driver.specs.Dumps.{IsLogged}
use Rattle.plir_driver.specs.Stopped.{IsStopped}
use Rattle.plir_driver.specs.Transformed.{IsTransformed}
use Rattle.plir_driver.proofs.Printing.{if-err}
use Rattle.plir_driver.proofs.transform.transform.Goals as goal

pub returns-in_ok-text-in-Ok-clause-transformed : goal.returns-in_ok-text-in-Ok-clause-transformed
returns-in_ok-text-in-Ok-clause-transformed g c =
    let is = c.as_str.ensures.value ∙ c.in_ok-text-in-Ok.ensures.text ∙ ap blanked c.in-Ok.ensures.cases.0 in
    subst (λ z. IfOk c.transform_text.result (λ t. IsTransformed g.D.OpSet g.D.SymbolUserSet.uses_hold
    g.D.VerifySet.rule g.D.SymbolNames.names_used g.T.TextReader.stands g.P.Pass.has_passed
    c.args.choices.now.verify c.args.choices.now.passes.items c.args.choices.now.form z (string_bytes t))) is
    c.transform_text.ensures.transformed

pub returns-in_ok-text-in-Ok-clause-stopped : goal.returns-in_ok-text-in-Ok-clause-stopped
returns-in_ok-text-in-Ok-clause-stopped g c =
    let is = c.as_str.ensures.value ∙ c.in_ok-text-in-Ok.ensures.text ∙ ap blanked c.in-Ok.ensures.cases.0 in
    if-err c.transform_text.result (λ e h. inr h) (subst (λ z. IfErr c.transform_text.result
    (IsStopped g.D.OpSet g.D.SymbolUserSet.uses_hold g.D.SymbolUserSet.use_refusal g.D.VerifySet.rule
    g.D.VerifySet.rule_refusal g.D.SymbolNames.names_used g.T.TextReader.stands g.T.TextReader.refuses
    g.P.Pass.has_passed g.P.Pass.may_stop c.args.choices.now.verify c.args.choices.now.passes.items
    c.args.choices.now.form z)) is c.transform_text.ensures.stopped)

pub returns-in_err-text-in-Ok-clause-stopped : goal.returns-in_err-text-in-Ok-clause-stopped
returns-in_err-text-in-Ok-clause-stopped g c =
    let p = err_from_is_err_and c.from_residual.result c.from_residual.ensures.1 in rw (p.1, p.2) (inr (inl tt))

pub returns-in-Err-clause-stopped : goal.returns-in-Err-clause-stopped
returns-in-Err-clause-stopped g c = inl (refl, c.in-Err.ensures.cases.0)

pub returns-in_ok-text-in-Ok-clause-logged : goal.returns-in_ok-text-in-Ok-clause-logged
returns-in_ok-text-in-Ok-clause-logged g c =
    let is = c.as_str.ensures.value ∙ c.in_ok-text-in-Ok.ensures.text ∙ ap blanked c.in-Ok.ensures.cases.0 in
    subst (λ z. OnOk c.transform_text.result (IsLogged g.D.OpSet g.P.Offered.pass_name g.P.Pass.has_passed
    c.args.choices.now.reports g.T.TextReader.stands c.args.choices.now.passes.items z c.args.log.now
    c.transform_text.new.log)) is c.transform_text.ensures.logged
