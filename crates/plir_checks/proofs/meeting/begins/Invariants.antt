use Rattle.std.proofs.Common.{◌≡◌, length}
use Rattle.plir_checks.specs.Blanks.{begins}
use Rattle.plir_checks.proofs.meeting.begins.Given as goal

-- the line begins with the text exactly if what is left of it begins with what is left of the text
abbrev pub invariant-loop-wanted : goal.invariant-loop-wanted
invariant-loop-wanted l = begins l.rest l.sought ≡ begins l.fn.line l.fn.text

abbrev pub decreases-loop-wanted : goal.decreases-loop-wanted
decreases-loop-wanted l = length l.sought
