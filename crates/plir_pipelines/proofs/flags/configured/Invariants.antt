use Rattle.std.proofs.Common.{take}
use Rattle.plir_pipelines.specs.Flags.{AreConfigured}
use Rattle.plir_pipelines.proofs.flags.configured.Given as goal

-- the passes so far are configured
abbrev pub invariant-loop-pass : goal.invariant-loop-pass
invariant-loop-pass g l =
    AreConfigured g.P.Offered.pass_name g.P.Offered.pass_options g.P.Offered.with_option l.given
    (take l.pass-index l.offered) l.passes.items
