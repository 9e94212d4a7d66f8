use Rattle.std.proofs.Common.{take}
use Rattle.plir_pipelines.specs.Passes.{AreNamed}
use Rattle.plir_pipelines.proofs.passes.passes_in.Given as goal

-- the steps so far name the passes so far
abbrev pub invariant-loop-step : goal.invariant-loop-step
invariant-loop-step g l =
    AreNamed g.P.Offered.pass_name g.P.Offered.pass_options g.P.Offered.with_option l.offered
    (take l.step-index l.steps) l.passes.items
