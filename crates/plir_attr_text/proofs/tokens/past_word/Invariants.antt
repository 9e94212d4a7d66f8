use Rattle.std.proofs.Common.{◌≡◌, length}
use Rattle.plir_attr_text.specs.Bytes.{word_past}
use Rattle.plir_attr_text.proofs.tokens.past_word.Given as goal

abbrev pub invariant-loop-rest : goal.invariant-loop-rest
invariant-loop-rest l = word_past l.rest ≡ word_past l.bytes

abbrev pub decreases-loop-rest : goal.decreases-loop-rest
decreases-loop-rest l = length l.rest
