use Rattle.std.proofs.Common.{arith, subst}
use Rattle.std.proofs.lemmas.Result.{err_from_is_err_and}
use Rattle.plir_pipelines.specs.Flags.{IsConfigured, IsFlagRefused}
use Rattle.plir_pipelines.proofs.Flagged.{configure-refused}
use Rattle.plir_pipelines.proofs.Zipped.{zip-on}
use Rattle.plir_pipelines.proofs.flags.configured.Goals as goal

pub returns-in_err-configured_one-clause-refused : goal.returns-in_err-configured_one-clause-refused
returns-in_err-configured_one-clause-refused g c =
    let p = err_from_is_err_and c.from_residual.result c.from_residual.ensures.1 in
    rw (p.1, p.2) (configure-refused g.P.Offered.pass_name g.P.Offered.pass_options g.P.Offered.with_option
    c.args.given.now c.args.offered.now c.loop-pass.pass-index c.pass-item.result (omega arith)
    c.in_err-configured_one.field-0.0
    (subst (λ z. IsFlagRefused g.P.Offered.pass_name g.P.Offered.pass_options c.args.given.now z
    c.in_err-configured_one.field-0.0) c.pass-item.is c.in_err-configured_one.ensures.refused))

pub loop-pass-preserved : goal.loop-pass-preserved
loop-pass-preserved g c =
    let Is = IsConfigured g.P.Offered.pass_name g.P.Offered.pass_options g.P.Offered.with_option c.args.given.now in
    zip-on Is c.args.offered.now c.loop-pass.pass-index c.pass-item.result c.loop-pass.passes.items
    c.push.new.self.items c.in_ok-configured_one.field-0 c.in_ok-push.ensures.items (omega arith)
    c.loop-pass.invariant
    (subst (λ z. Is z c.in_ok-configured_one.field-0) c.pass-item.is c.in_ok-configured_one.ensures.configured)
