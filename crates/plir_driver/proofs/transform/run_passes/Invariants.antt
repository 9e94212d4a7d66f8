use Rattle.std.proofs.Common.{◌≡◌, true, take}
use Rattle.plir_core.specs.declared.ptr.IRNode.TheVariants.{Operation}
use Rattle.plir_core.specs.ContextView.{IsLive}
use Rattle.plir_verify.specs.Rules.{AllHaveRules}
use Rattle.plir_driver.specs.Dumps.{AreLogged}
use Rattle.plir_driver.specs.Passed.{AreRun}
use Rattle.plir_driver.proofs.transform.run_passes.Given as goal

-- the passes so far were run, of them is told what is to be, and what they left is right, if that is to be verified
abbrev pub invariant-loop-pass : goal.invariant-loop-pass
invariant-loop-pass g l =
    IsLive l.ctx (Operation l.root)
    × AreRun g.D.OpSet g.P.Pass.has_passed l.root g.D.SymbolUserSet.uses_hold g.D.VerifySet.rule l.verify
    (take l.pass-index l.passes) l.fn.ctx l.ctx
    × AreLogged g.D.OpSet g.P.Offered.pass_name g.P.Pass.has_passed l.reports l.root (take l.pass-index l.passes) l.fn.ctx
    l.ctx l.fn.log l.log
    × (l.verify ≡ true → AllHaveRules g.D.OpSet g.D.SymbolUserSet.uses_hold g.D.VerifySet.rule l.ctx l.root)
