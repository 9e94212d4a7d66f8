use Rattle.std.proofs.Common.{subst, sym}
use Rattle.std.proofs.lemmas.Result.{err_from_is_err_and}
use Rattle.plir_verify.specs.Rules.{AllHaveRules}
use Rattle.plir_driver.specs.PassEnds.{IsEnd}
use Rattle.plir_driver.proofs.Stopping.{passing, verifying}
use Rattle.plir_driver.proofs.transform.run_one.Goals.{then-is_verified_behind+in_ok-verify_tree}
use Rattle.plir_driver.proofs.transform.run_one.Goals.{else-is_verified_behind}
use Rattle.plir_driver.proofs.transform.run_one.Goals as goal

pub returns-in_err-end-clause-stopped : goal.returns-in_err-end-clause-stopped
returns-in_err-end-clause-stopped g c =
    let p = err_from_is_err_and c.from_residual.result c.from_residual.ensures.1 in
    rw (p.1, p.2) (passing g.D.OpSet g.D.SymbolUserSet.uses_hold g.D.SymbolUserSet.use_refusal g.D.VerifySet.rule
    g.D.VerifySet.rule_refusal c.args.root c.args.ctx.now g.P.Pass.has_passed g.P.Pass.may_stop c.args.verify
    c.args.pass c.in_err-end.field-0.0 c.in_err-end.ensures.stopped)

pub returns-in_err-verify_tree-clause-stopped : goal.returns-in_err-verify_tree-clause-stopped
returns-in_err-verify_tree-clause-stopped g c =
    let p =
    err_from_is_err_and c.from_residual-in_err-verify_tree.result c.from_residual-in_err-verify_tree.ensures.1 in
    rw (p.1, p.2) (verifying g.D.OpSet g.D.SymbolUserSet.uses_hold g.D.SymbolUserSet.use_refusal g.D.VerifySet.rule
    g.D.VerifySet.rule_refusal g.P.Pass.has_passed g.P.Pass.may_stop c.args.root c.args.verify c.args.pass
    c.args.ctx.now c.run.new.ctx c.in_err-verify_tree.field-0.0
    (c.is_verified_behind.ensures.asked c.if-is_verified_behind.true) c.in_ok-end.ensures.passed
    c.in_err-verify_tree.ensures.refused)

pub returns-clause-verified : goal.returns-clause-verified
returns-clause-verified g c =
    elim c.if-is_verified_behind.branch [
      | then-is_verified_behind+in_ok-verify_tree w ↦ λ asked. w.in_ok-verify_tree.ensures.ok
      | else-is_verified_behind w ↦ λ asked.
          let kept = c.is_verified_behind.ensures.left_out w.if-is_verified_behind.false asked in
          let same = subst (IsEnd c.args.ctx.now c.run.new.ctx) kept c.in_ok-end.ensures.end in
          subst (λ s. AllHaveRules g.D.OpSet g.D.SymbolUserSet.uses_hold g.D.VerifySet.rule s c.args.root) (sym same)
          (c.requires.right asked)
    ]
