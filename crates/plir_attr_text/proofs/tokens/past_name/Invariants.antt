use Rattle.std.proofs.Common.{◌≡◌, length}
use Rattle.plir_attr_text.specs.Bytes.{is_in_name, past}
use Rattle.plir_attr_text.proofs.tokens.past_name.Given as goal

abbrev pub invariant-loop-rest : goal.invariant-loop-rest
invariant-loop-rest l = past is_in_name l.rest ≡ past is_in_name l.bytes

abbrev pub decreases-loop-rest : goal.decreases-loop-rest
decreases-loop-rest l = length l.rest
