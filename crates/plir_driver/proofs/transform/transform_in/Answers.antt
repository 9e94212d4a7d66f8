use Rattle.std.proofs.Common.{inl, inr, string_bytes, subst}
use Rattle.std.proofs.lemmas.Result.{err_from_is_err_and}
use Rattle.plir_driver.specs.Passed.{AreRun}
use Rattle.plir_driver.specs.Stopped.{IsStoppedIn}
use Rattle.plir_driver.specs.Dumps.{AreLogged}
use Rattle.plir_driver.proofs.Printing.{all-ok, if-err, if-ok}
use Rattle.plir_driver.proofs.Stopping.{unread, wrong}
use Rattle.plir_driver.proofs.transform.transform_in.Goals as goal

pub read-requires : goal.read-requires
read-requires g c = c.requires

pub verify_tree-requires : goal.verify_tree-requires
verify_tree-requires g c = c.in_ok-root.ensures.live

pub run_passes-requires : goal.run_passes-requires
run_passes-requires g c = record {
  live = c.in_ok-root.ensures.live;
  right = λ asked. c.in_ok-verify_tree.ensures.ok;
}

pub print-requires : goal.print-requires
print-requires g c = c.run_passes.ensures.live

pub returns-in_err-root-clause-stopped : goal.returns-in_err-root-clause-stopped
returns-in_err-root-clause-stopped g c =
    let p = err_from_is_err_and c.from_residual.result c.from_residual.ensures.1 in
    let e = c.in_err-root.field-0.0 in
    rw (p.1, p.2) (inl (unread _ g.T.TextReader.refuses c.args.text.now e.line e.column e.fault c.utf8.text
    c.in_err-root.ensures.refused))

pub returns-in_err-verify_tree-clause-stopped : goal.returns-in_err-verify_tree-clause-stopped
returns-in_err-verify_tree-clause-stopped g c =
    let p =
    err_from_is_err_and c.from_residual-in_err-verify_tree.result c.from_residual-in_err-verify_tree.ensures.1 in
    rw (p.1, p.2) (inr (
      c.in_ok-root.root,
      c.read.new.ctx,
      c.in_ok-root.ensures.read,
      inl (wrong g.D.OpSet g.D.SymbolUserSet.uses_hold g.D.SymbolUserSet.use_refusal g.D.VerifySet.rule
          g.D.VerifySet.rule_refusal c.in_ok-root.root c.read.new.ctx c.in_err-verify_tree.field-0.0
          c.in_err-verify_tree.ensures.refused),
    ))

pub returns-in_err-run_passes-clause-stopped : goal.returns-in_err-run_passes-clause-stopped
returns-in_err-run_passes-clause-stopped g c =
    let p =
    err_from_is_err_and c.from_residual-in_err-run_passes.result c.from_residual-in_err-run_passes.ensures.1 in
    rw (p.1, p.2) (inr (
      c.in_ok-root.root,
      c.read.new.ctx,
      c.in_ok-root.ensures.read,
      inr (
        c.in_ok-verify_tree.ensures.ok,
        inl (subst (λ z. IsStoppedIn g.D.OpSet g.D.SymbolUserSet.uses_hold g.D.SymbolUserSet.use_refusal
            g.D.VerifySet.rule g.D.VerifySet.rule_refusal g.P.Pass.has_passed g.P.Pass.may_stop c.in_ok-root.root
            c.args.choices.now.verify z c.read.new.ctx c.in_err-run_passes.field-0.0) c.as_slice.ensures.value
            c.in_err-run_passes.ensures.stopped),
      ),
    ))

pub returns-clause-transformed : goal.returns-clause-transformed
returns-clause-transformed g c =
    if-ok c.print.result (λ t prints. record {
      root = c.in_ok-root.root;
      read = c.read.new.ctx;
      left = c.run_passes.new.ctx;
      stands = c.in_ok-root.ensures.read;
      verified = c.in_ok-verify_tree.ensures.ok;
      passed =
          subst (λ z. AreRun g.D.OpSet g.P.Pass.has_passed c.in_ok-root.root g.D.SymbolUserSet.uses_hold
          g.D.VerifySet.rule c.args.choices.now.verify z c.read.new.ctx c.run_passes.new.ctx)
          c.as_slice.ensures.value c.in_ok-run_passes.ensures.passed;
      prints = prints;
    }) c.print.ensures.printed

pub returns-clause-stopped : goal.returns-clause-stopped
returns-clause-stopped g c =
    if-err c.print.result (λ e unprinted. inr (
      c.in_ok-root.root,
      c.read.new.ctx,
      c.in_ok-root.ensures.read,
      inr (
        c.in_ok-verify_tree.ensures.ok,
        inr (
          c.run_passes.new.ctx,
          subst (λ z. AreRun g.D.OpSet g.P.Pass.has_passed c.in_ok-root.root g.D.SymbolUserSet.uses_hold
              g.D.VerifySet.rule c.args.choices.now.verify z c.read.new.ctx c.run_passes.new.ctx)
              c.as_slice.ensures.value c.in_ok-run_passes.ensures.passed,
          unprinted,
        ),
      ),
    )) c.print.ensures.unprinted

pub returns-clause-logged : goal.returns-clause-logged
returns-clause-logged g c =
    all-ok c.print.result (record {
      root = c.in_ok-root.root;
      read = c.read.new.ctx;
      left = c.run_passes.new.ctx;
      stands = c.in_ok-root.ensures.read;
      told =
          subst (λ z. AreLogged g.D.OpSet g.P.Offered.pass_name g.P.Pass.has_passed c.args.choices.now.reports
          c.in_ok-root.root z c.read.new.ctx c.run_passes.new.ctx c.args.log.now
          c.run_passes.new.log) c.as_slice.ensures.value c.in_ok-run_passes.ensures.logged;
    })
