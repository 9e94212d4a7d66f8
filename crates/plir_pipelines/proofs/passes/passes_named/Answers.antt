use Rattle.std.proofs.Common.{subst}
use Rattle.std.proofs.lemmas.Result.{err_from_is_err_and}
use Rattle.plir_pipelines.specs.Passes.{AreNamed, AreNamesRefused}
use Rattle.plir_pipelines.proofs.Answering.{if-err, if-ok}
use Rattle.plir_pipelines.proofs.Names.{pipeline-malformed, pipeline-refused}
use Rattle.plir_pipelines.proofs.passes.passes_named.Goals as goal

pub returns-in_err-steps-clause-refused : goal.returns-in_err-steps-clause-refused
returns-in_err-steps-clause-refused g c =
    let p = err_from_is_err_and c.from_residual.result c.from_residual.ensures.1 in
    rw (p.1, p.2) (pipeline-malformed g.P.Offered.pass_name g.P.Offered.pass_options g.P.Offered.with_option
    c.args.offered.now c.args.text.now c.in_err-steps.field-0.0 c.in_err-steps.ensures.refused)

pub returns-clause-named : goal.returns-clause-named
returns-clause-named g c =
    if-ok c.passes_in.result (λ v named. (
      c.in_ok-steps.steps.items,
      c.in_ok-steps.ensures.read,
      subst (λ z. AreNamed g.P.Offered.pass_name g.P.Offered.pass_options g.P.Offered.with_option c.args.offered.now z
          v.items) c.as_slice.ensures.value named,
    )) c.passes_in.ensures.named

pub returns-clause-refused : goal.returns-clause-refused
returns-clause-refused g c =
    if-err c.passes_in.result (λ e h. pipeline-refused g.P.Offered.pass_name g.P.Offered.pass_options
    g.P.Offered.with_option c.args.offered.now c.args.text.now c.in_ok-steps.steps.items c.in_ok-steps.ensures.read e
    (subst (λ z. AreNamesRefused g.P.Offered.pass_name g.P.Offered.pass_options g.P.Offered.with_option
    c.args.offered.now z e) c.as_slice.ensures.value h)) c.passes_in.ensures.refused
