use Rattle.std.proofs.Common.{arith, refl}
use Rattle.plir_checks.specs.Lines.{lines_left, lines_of}
use Rattle.plir_checks.proofs.Fronts.{few_lines}
use Rattle.plir_checks.proofs.Seeking.{met_at, missed_at, no_check, room_for, so_far_none}
use Rattle.plir_checks.proofs.meeting.meets.Goals as goal

pub loop-check-init : goal.loop-check-init
loop-check-init c = so_far_none c.args.checks.now (lines_of c.args.printed.now)

pub loop-check-preserved : goal.loop-check-preserved
loop-check-preserved c =
    met_at c.args.checks.now (lines_of c.args.printed.now) (lines_left c.loop-check.left) c.loop-check.check-index
    c.loop-check.from no_check c.loop-check.invariant c.loop-check-test.true c.in-Some.past _
    (lines_left c.in-Some.behind) c.in-Some.ensures refl

pub returns-in-None-clause-none : goal.returns-in-None-clause-none
returns-in-None-clause-none c =
    missed_at c.args.checks.now (lines_of c.args.printed.now) (lines_left c.loop-check.left) c.loop-check.check-index
    c.loop-check.from no_check c.loop-check.invariant c.loop-check-test.true c.in-None.ensures

pub overflow_add-from : goal.overflow_add-from
overflow_add-from c =
    omega (
      arith,
      c.well_formed,
      few_lines c.args.printed.now,
      c.loop-check.invariant.count,
      room_for _ _ (lines_left c.loop-check.left) c.in-Some.past (lines_left c.in-Some.behind) c.in-Some.ensures,
    )
