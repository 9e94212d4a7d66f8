use Rattle.std.proofs.Common.{◌≡◌, ◌++◌, length, string_bytes}
use denote.Text.{Utf8}
use denote.Shadow.{shadow}
use Rattle.plir_checks.specs.Comments.{blanked}
use Rattle.plir_checks.specs.Lines.{lines_of}
use Rattle.plir_checks.proofs.comments.blank_comments.Given as goal

-- what is put and what is left are the whole
abbrev pub invariant-loop-out : goal.invariant-loop-out
invariant-loop-out l = shadow (Utf8 l.rest) × (string_bytes l.out ++ blanked l.rest ≡ blanked l.fn.text)

abbrev pub decreases-loop-out : goal.decreases-loop-out
decreases-loop-out l = length (lines_of l.rest)
