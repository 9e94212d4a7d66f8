use Rattle.std.proofs.Common.{◌≡◌, drop}
use Rattle.plir_checks.specs.Blanks.{has_text}
use Rattle.plir_checks.proofs.meeting.has_text.Given as goal

-- the text stands at no place so far
abbrev pub invariant-loop-start : goal.invariant-loop-start
invariant-loop-start l = has_text (drop l.start l.fn.line) l.fn.text ≡ has_text l.fn.line l.fn.text
