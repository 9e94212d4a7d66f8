use Rattle.std.proofs.Common.{arith}
use Rattle.plir_attr_text.specs.Bytes.{value_after}
use Rattle.plir_attr_text.proofs.Values.{value_made}
use Rattle.plir_attr_text.proofs.attr_words.value_of.Goals as goal

pub returns-clause-value : goal.returns-clause-value
returns-clause-value c =
    value_made c.args.negative (value_after 0 c.args.digits.now) c.args.width c.in_ok-bits.bits c.in-Some.value.bits
    (omega arith) (omega arith) c.in_ok-bits.ensures c.in-Some.ensures.value.1
