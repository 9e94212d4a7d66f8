use Rattle.std.proofs.Common.{◌≡◌, length}
use Rattle.plir_data.specs.Identifier.{is_digit}
use Rattle.plir_attr_text.specs.Bytes.{all_pass}
use Rattle.plir_attr_text.proofs.tokens.all_digits.Given as goal

abbrev pub invariant-loop-rest : goal.invariant-loop-rest
invariant-loop-rest l = all_pass is_digit l.rest ≡ all_pass is_digit l.bytes

abbrev pub decreases-loop-rest : goal.decreases-loop-rest
decreases-loop-rest l = length l.rest
