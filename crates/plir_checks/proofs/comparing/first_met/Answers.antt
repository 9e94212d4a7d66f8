use Rattle.std.proofs.Common.{sym, ◌∙◌}
use Rattle.std.proofs.Math.ListN.{drop_of_length-le}
use Rattle.plir_checks.proofs.Taking.{none_met, not_this, this_one}
use Rattle.plir_checks.proofs.comparing.first_met.Goals as goal

pub loop-place-preserved : goal.loop-place-preserved
loop-place-preserved c =
    not_this c.args.came.now c.args.expected.now c.loop-place.place _ c.loop-place-test.true c.loop-place.invariant
    (sym c.is_met.ensures ∙ c.if-is_met.false)

pub returns-then-is_met : goal.returns-then-is_met
returns-then-is_met c = (
  c.loop-place-test.true,
  this_one c.args.came.now c.args.expected.now c.loop-place.place _ c.loop-place-test.true c.loop-place.invariant
      (sym c.is_met.ensures ∙ c.if-is_met.true),
)

pub returns : goal.returns
returns c =
    none_met c.args.came.now c.args.expected.now c.loop-place.place c.loop-place.invariant
    (drop_of_length-le c.args.expected.now c.loop-place-test.false)
