use Rattle.plir_pipelines.specs.Offers.{CanBeOfferedTo}
use Rattle.plir_pipelines.proofs.offer.check_offer.Given as goal

-- those so far can be offered
abbrev pub invariant-loop-place : goal.invariant-loop-place
invariant-loop-place g l = CanBeOfferedTo g.P.Offered.pass_name l.place l.passes
