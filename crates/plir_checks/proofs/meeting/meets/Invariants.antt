use Rattle.std.proofs.Common.{drop}
use Rattle.plir_checks.specs.Lines.{lines_left, lines_of}
use Rattle.plir_checks.proofs.Seeking.{SoFar}
use Rattle.plir_checks.proofs.meeting.meets.Given as goal

-- the checks so far are met
abbrev pub invariant-loop-check : goal.invariant-loop-check
invariant-loop-check l =
    SoFar l.fn.checks (lines_of l.fn.printed) (drop l.check-index l.checks) (lines_left l.left) l.from
