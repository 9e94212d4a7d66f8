use Rattle.std.proofs.Common.{◌≡◌, true, ◌+◌, drop, get_or, take, arith, refl, subst}
use Rattle.std.proofs.lemmas.Result.{err_from_is_err_and}
use Rattle.plir_verify.specs.Rules.{AllHaveRules}
use Rattle.plir_driver.specs.Stopped.{IsStoppedAt}
use Rattle.plir_driver.specs.Dumps.{IsRunLogged}
use Rattle.plir_driver.proofs.Logging.{done-all, done-to}
use Rattle.plir_driver.proofs.Passing.{parted, passed-all, passed-to}
use Rattle.plir_driver.proofs.transform.run_passes.Goals as goal

pub loop-pass-init : goal.loop-pass-init
loop-pass-init g c = (c.requires.live, refl, (refl, refl), c.requires.right)

pub run_told-requires-clause-live : goal.run_told-requires-clause-live
run_told-requires-clause-live g c = c.loop-pass.invariant.0

pub run_told-requires-clause-right : goal.run_told-requires-clause-right
run_told-requires-clause-right g c = c.loop-pass.invariant.3

pub loop-pass-preserved : goal.loop-pass-preserved
loop-pass-preserved g c =
    let x = c.pass-item.result in
    let Done = IsRunLogged g.D.OpSet g.P.Offered.pass_name g.P.Pass.has_passed c.args.reports.now c.args.root in
    let told : Done x c.loop-pass.ctx c.run_told.new.ctx c.loop-pass.log
    c.run_told.new.log = (c.in_ok-run_told.ensures.passed, c.in_ok-run_told.ensures.logged) in (
      c.run_told.ensures.live,
      passed-to g.P.Pass.has_passed c.args.root
          (λ s. c.args.verify ≡ true →
          AllHaveRules g.D.OpSet g.D.SymbolUserSet.uses_hold g.D.VerifySet.rule s c.args.root)
          c.args.passes.now c.loop-pass.pass-index x c.args.ctx.now c.loop-pass.ctx c.run_told.new.ctx (omega arith)
          c.loop-pass.invariant.1
          (subst (λ z. g.P.Pass.has_passed z c.args.root c.loop-pass.ctx c.run_told.new.ctx) c.pass-item.is
          c.in_ok-run_told.ensures.passed) c.in_ok-run_told.ensures.verified,
      done-to Done c.args.passes.now c.loop-pass.pass-index x c.args.ctx.now c.loop-pass.ctx c.run_told.new.ctx
          c.args.log.now c.loop-pass.log c.run_told.new.log (omega arith)
          c.loop-pass.invariant.2
          (subst (λ z. Done z c.loop-pass.ctx c.run_told.new.ctx c.loop-pass.log
          c.run_told.new.log) c.pass-item.is told),
      c.in_ok-run_told.ensures.verified,
    )

pub returns-clause-logged : goal.returns-clause-logged
returns-clause-logged g c =
    done-all (IsRunLogged g.D.OpSet g.P.Offered.pass_name g.P.Pass.has_passed c.args.reports.now c.args.root)
    c.args.passes.now c.loop-pass.pass-index c.args.ctx.now c.loop-pass.ctx c.args.log.now
    c.loop-pass.log (omega arith) c.loop-pass.invariant.2

pub returns-clause-passed : goal.returns-clause-passed
returns-clause-passed g c =
    passed-all g.P.Pass.has_passed c.args.root
    (λ s. c.args.verify ≡ true → AllHaveRules g.D.OpSet g.D.SymbolUserSet.uses_hold g.D.VerifySet.rule s c.args.root)
    c.args.passes.now c.loop-pass.pass-index c.args.ctx.now c.loop-pass.ctx (omega arith) c.loop-pass.invariant.1

pub returns-in_err-run_told-clause-stopped : goal.returns-in_err-run_told-clause-stopped
returns-in_err-run_told-clause-stopped g c =
    let p = err_from_is_err_and c.from_residual.result c.from_residual.ensures.1 in
    let x = c.pass-item.result in
    rw (p.1, p.2) (record {
      front = take c.loop-pass.pass-index c.args.passes.now;
      pass = get_or c.args.passes.now c.loop-pass.pass-index x;
      back = drop (c.loop-pass.pass-index + 1) c.args.passes.now;
      here = c.loop-pass.ctx;
      asked = parted c.args.passes.now c.loop-pass.pass-index x (omega arith);
      run = c.loop-pass.invariant.1;
      stops =
          subst (λ z. IsStoppedAt g.D.OpSet g.D.SymbolUserSet.uses_hold g.D.SymbolUserSet.use_refusal
          g.D.VerifySet.rule g.D.VerifySet.rule_refusal g.P.Pass.has_passed g.P.Pass.may_stop c.args.root c.args.verify
          z c.loop-pass.ctx c.in_err-run_told.field-0.0) c.pass-item.is c.in_err-run_told.ensures.stopped;
    })
