use Rattle.std.proofs.Common.{◌≡◌, length}
use Rattle.plir_attr_text.specs.Bytes.{hex_after}
use Rattle.plir_attr_text.proofs.strings.hex_number.Given as goal

abbrev pub invariant-loop-rest : goal.invariant-loop-rest
invariant-loop-rest l = hex_after l.number l.rest ≡ hex_after 0 l.digits

abbrev pub decreases-loop-rest : goal.decreases-loop-rest
decreases-loop-rest l = length l.rest
