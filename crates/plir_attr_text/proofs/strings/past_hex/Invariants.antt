use Rattle.std.proofs.Common.{◌≡◌, length}
use Rattle.plir_attr_text.specs.Bytes.{is_hex, past}
use Rattle.plir_attr_text.proofs.strings.past_hex.Given as goal

abbrev pub invariant-loop-rest : goal.invariant-loop-rest
invariant-loop-rest l = past is_hex l.rest ≡ past is_hex l.bytes

abbrev pub decreases-loop-rest : goal.decreases-loop-rest
decreases-loop-rest l = length l.rest
