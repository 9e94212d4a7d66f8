use Rattle.plir_data.specs.Identifier.{is_digit}
use Rattle.plir_attr_text.specs.laws.Lexing.{past-length, front-taken}
use Rattle.plir_attr_text.proofs.tokens.front_digits.Goals as goal

pub slice_bounds-result-count : goal.slice_bounds-result-count
slice_bounds-result-count c = rw c.past_digits-rest.ensures (past-length is_digit c.args.bytes.now)

pub returns : goal.returns
returns c = rw c.past_digits-rest.ensures (front-taken is_digit c.args.bytes.now)
