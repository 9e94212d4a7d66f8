use Rattle.std.proofs.Common.{arith, refl}
use Rattle.std.proofs.lemmas.Result.{err_from_is_err_and}
use Rattle.plir_pipelines.proofs.Sets.{no_setting, set-all, set-refused, set-to}
use Rattle.plir_pipelines.proofs.options.set_all.Goals as goal

pub loop-setting-init : goal.loop-setting-init
loop-setting-init g c = refl

pub loop-setting-preserved : goal.loop-setting-preserved
loop-setting-preserved g c =
    set-to g.P.Offered.pass_name g.P.Offered.pass_options g.P.Offered.with_option c.args.settings.now
    c.loop-setting.setting-index no_setting c.args.pass c.loop-setting.pass c.loop-setting.invariant
    c.in_ok-pass.pass (omega arith)
    c.in_ok-pass.ensures.set

pub returns-clause-set : goal.returns-clause-set
returns-clause-set g c =
    set-all g.P.Offered.pass_name g.P.Offered.pass_options g.P.Offered.with_option c.args.settings.now
    c.loop-setting.setting-index no_setting c.args.pass c.loop-setting.pass c.loop-setting.invariant
    (omega arith)

pub returns-in_err-pass-clause-refused : goal.returns-in_err-pass-clause-refused
returns-in_err-pass-clause-refused g c =
    let p = err_from_is_err_and c.from_residual.result c.from_residual.ensures.1 in
    rw (p.1, p.2) (set-refused g.P.Offered.pass_name g.P.Offered.pass_options g.P.Offered.with_option
    c.args.settings.now c.loop-setting.setting-index no_setting c.args.pass c.loop-setting.pass
    c.loop-setting.invariant c.in_err-pass.field-0.0 (omega arith)
    c.in_err-pass.ensures.refused)
