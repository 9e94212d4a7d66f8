use Rattle.std.proofs.Common.{◌≡◌, ◌+◌, length}
use denote.Text.{Utf8}
use denote.Shadow.{shadow}
use Rattle.plir_checks.specs.Expecting.{readings}
use Rattle.plir_checks.specs.Lines.{lines_of}
use Rattle.plir_checks.proofs.Telling.{Told}
use Rattle.plir_checks.proofs.expected.read_expected.Given as goal

-- what is read and what is left are the whole, and the next line has a number
abbrev pub invariant-loop-told : goal.invariant-loop-told
invariant-loop-told l =
    shadow (Utf8 l.rest) × Told l.expected.items l.number (lines_of l.rest) (readings 1 (lines_of l.fn.text))
    × (l.number + length (lines_of l.rest) ≡ length (lines_of l.fn.text) + 1)

abbrev pub decreases-loop-told : goal.decreases-loop-told
decreases-loop-told l = length (lines_of l.rest)
