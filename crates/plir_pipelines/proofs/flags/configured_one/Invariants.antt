use Rattle.plir_pipelines.proofs.Flagged.{HasNumbers}
use Rattle.plir_pipelines.proofs.flags.configured_one.Given as goal

-- the options so far have their numbers
abbrev pub invariant-loop-place : goal.invariant-loop-place
invariant-loop-place g l =
    HasNumbers g.P.Offered.pass_name g.P.Offered.pass_options g.P.Offered.with_option l.given l.fn.pass l.place
    l.configured
