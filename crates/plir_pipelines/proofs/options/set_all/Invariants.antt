use Rattle.std.proofs.Common.{take}
use Rattle.plir_pipelines.specs.Options.{AreSet}
use Rattle.plir_pipelines.proofs.options.set_all.Given as goal

-- the settings so far are set
abbrev pub invariant-loop-setting : goal.invariant-loop-setting
invariant-loop-setting g l =
    AreSet g.P.Offered.pass_name g.P.Offered.pass_options g.P.Offered.with_option (take l.setting-index l.settings)
    l.fn.pass l.pass
