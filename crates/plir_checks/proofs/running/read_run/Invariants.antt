use Rattle.std.proofs.Common.{◌≡◌, length}
use denote.Text.{Utf8}
use denote.Shadow.{shadow}
use Rattle.plir_checks.specs.Lines.{lines_of}
use Rattle.plir_checks.specs.Running.{run_in}
use Rattle.plir_checks.proofs.running.read_run.Given as goal

-- the lines so far say nothing of a run
abbrev pub invariant-loop-words : goal.invariant-loop-words
invariant-loop-words l = shadow (Utf8 l.rest) × (run_in (lines_of l.rest) ≡ run_in (lines_of l.fn.text))

abbrev pub decreases-loop-words : goal.decreases-loop-words
decreases-loop-words l = length (lines_of l.rest)
