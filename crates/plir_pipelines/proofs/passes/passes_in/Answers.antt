use Rattle.std.proofs.Common.{arith, subst}
use Rattle.std.proofs.lemmas.Result.{err_from_is_err_and}
use Rattle.plir_pipelines.specs.Passes.{IsNamed, IsNameRefused}
use Rattle.plir_pipelines.proofs.Names.{names-all, names-refused}
use Rattle.plir_pipelines.proofs.Zipped.{zip-on}
use Rattle.plir_pipelines.proofs.passes.passes_in.Goals as goal

pub loop-step-init : goal.loop-step-init
loop-step-init g c = rw c.new-passes.ensures.items tt

pub loop-step-preserved : goal.loop-step-preserved
loop-step-preserved g c =
    let Named = IsNamed g.P.Offered.pass_name g.P.Offered.pass_options g.P.Offered.with_option c.args.offered.now in
    zip-on Named c.args.steps.now c.loop-step.step-index c.step-item.result c.loop-step.passes.items
    c.push.new.self.items c.in_ok-pass_in.field-0 c.in_ok-push.ensures.items (omega arith) c.loop-step.invariant
    (subst (λ z. Named z c.in_ok-pass_in.field-0) c.step-item.is c.in_ok-pass_in.ensures.named)

pub returns-clause-named : goal.returns-clause-named
returns-clause-named g c =
    names-all g.P.Offered.pass_name g.P.Offered.pass_options g.P.Offered.with_option c.args.offered.now
    c.args.steps.now c.loop-step.step-index c.loop-step.passes.items (omega arith) c.loop-step.invariant

pub returns-in_err-pass_in-clause-refused : goal.returns-in_err-pass_in-clause-refused
returns-in_err-pass_in-clause-refused g c =
    let p = err_from_is_err_and c.from_residual.result c.from_residual.ensures.1 in
    rw (p.1, p.2) (names-refused g.P.Offered.pass_name g.P.Offered.pass_options g.P.Offered.with_option
    c.args.offered.now c.args.steps.now c.loop-step.step-index c.step-item.result c.loop-step.passes.items
    (omega arith) c.loop-step.invariant c.in_err-pass_in.field-0.0
    (subst (λ z. IsNameRefused g.P.Offered.pass_name g.P.Offered.pass_options g.P.Offered.with_option
    c.args.offered.now z c.in_err-pass_in.field-0.0) c.step-item.is c.in_err-pass_in.ensures.refused))
