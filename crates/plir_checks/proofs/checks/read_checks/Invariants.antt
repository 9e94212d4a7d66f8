use Rattle.std.proofs.Common.{◌≡◌, ◌+◌, length}
use denote.Text.{Utf8}
use denote.Shadow.{shadow}
use Rattle.plir_checks.specs.Checks.{checks_in}
use Rattle.plir_checks.specs.Lines.{lines_of}
use Rattle.plir_checks.proofs.Reading.{Read}
use Rattle.plir_checks.proofs.checks.read_checks.Given as goal

-- what is read and what is left are the whole, of which nothing so far is at fault, and the next line has a number
abbrev pub invariant-loop-checks : goal.invariant-loop-checks
invariant-loop-checks l =
    shadow (Utf8 l.rest) × Read l.checks.items l.number (lines_of l.rest) (checks_in 1 (lines_of l.fn.text))
    × (l.number + length (lines_of l.rest) ≡ length (lines_of l.fn.text) + 1)

abbrev pub decreases-loop-checks : goal.decreases-loop-checks
decreases-loop-checks l = length (lines_of l.rest)
