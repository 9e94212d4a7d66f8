use Rattle.std.proofs.Common.{length}
use denote.Text.{Utf8}
use denote.Shadow.{shadow}
use Rattle.plir_checks.specs.Lines.{lines_of}
use Rattle.plir_checks.proofs.Seeking.{Passed}
use Rattle.plir_checks.proofs.meeting.seek_behind.Given as goal

-- the lines so far have not what is sought
abbrev pub invariant-loop-behind : goal.invariant-loop-behind
invariant-loop-behind l = shadow (Utf8 l.rest) × Passed l.fn.sought (lines_of l.fn.text) (lines_of l.rest) l.lines

abbrev pub decreases-loop-behind : goal.decreases-loop-behind
decreases-loop-behind l = length (lines_of l.rest)
