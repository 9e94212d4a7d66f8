use Rattle.std.proofs.Common.{◌≡◌, length}
use Rattle.plir_attr_text.specs.Bytes.{value_after}
use Rattle.plir_attr_text.proofs.tokens.magnitude.Given as goal

abbrev pub invariant-loop-rest : goal.invariant-loop-rest
invariant-loop-rest l = value_after l.number l.rest ≡ value_after 0 l.digits

abbrev pub decreases-loop-rest : goal.decreases-loop-rest
decreases-loop-rest l = length l.rest
