use Rattle.std.proofs.Common.{sym}
use Rattle.plir_checks.proofs.Digits.{more_digits, more_small, more_value}
use Rattle.plir_checks.proofs.places.number_of.Goals as goal

pub loop-digit-preserved : goal.loop-digit-preserved
loop-digit-preserved c =
    let ds = c.args.digits.now in
    let i = c.loop-digit.digit-index in
    let v = c.loop-digit.value in
    let so_far = c.loop-digit.invariant in
    let range = c.if-not-is_ascii_digit.ensures.cases in (
      more_value ds i v c.loop-digit-test.true range.0 range.1 so_far.0,
      more_digits ds i v c.loop-digit-test.true range.0 range.1 so_far.1 (sym c.if-not-is_ascii_digit.ensures.value),
      more_small ds i v c.loop-digit-test.true range.0 range.1 so_far.2,
    )
