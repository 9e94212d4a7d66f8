use Rattle.plir_pipelines.specs.FlagOffers.{CanBeFlagsTo}
use Rattle.plir_pipelines.proofs.offer.check_flags.Given as goal

-- those so far can be offered
abbrev pub invariant-loop-place : goal.invariant-loop-place
invariant-loop-place g l = CanBeFlagsTo g.P.Offered.pass_name l.passes l.place l.flags
