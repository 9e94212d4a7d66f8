use Rattle.std.proofs.Common.{length}
use Rattle.plir_attr_text.specs.{Strings.string_at, laws.Quoted.GoesOn}
use Rattle.plir_attr_text.proofs.strings.read_quoted.Given as goal

abbrev pub invariant-steps : goal.invariant-steps
invariant-steps l = GoesOn l.content.items l.rest (string_at l.bytes)

abbrev pub decreases-steps : goal.decreases-steps
decreases-steps l = length l.rest
