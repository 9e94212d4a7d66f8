use Rattle.std.proofs.Common.{◌≡◌, length}
use Rattle.plir_data.specs.Identifier.{is_digit}
use Rattle.plir_attr_text.specs.Bytes.{past}
use Rattle.plir_attr_text.proofs.tokens.past_digits.Given as goal

abbrev pub invariant-loop-rest : goal.invariant-loop-rest
invariant-loop-rest l = past is_digit l.rest ≡ past is_digit l.bytes

abbrev pub decreases-loop-rest : goal.decreases-loop-rest
decreases-loop-rest l = length l.rest
