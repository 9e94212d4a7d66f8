use Rattle.plir_attr_text.specs.laws.Lexing.{hex_after-over}
use Rattle.plir_attr_text.proofs.strings.hex_number.Goals as goal

pub returns-in_default-with_hex : goal.returns-in_default-with_hex
returns-in_default-with_hex c =
    hex_after-over c.loop-rest.number c.loop-rest.rest.now _ _ c.in-len1-up.len_at_least c.loop-rest.invariant
    c.in_default-with_hex.ensures
