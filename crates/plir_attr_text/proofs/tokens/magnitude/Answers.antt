use Rattle.plir_attr_text.specs.laws.Lexing.{value_after-over}
use Rattle.plir_attr_text.proofs.tokens.magnitude.Goals as goal

pub returns-in_default-with_digit : goal.returns-in_default-with_digit
returns-in_default-with_digit c =
    value_after-over c.loop-rest.number c.loop-rest.rest.now _ _ c.in-len1-up.len_at_least c.loop-rest.invariant
    c.in_default-with_digit.ensures
