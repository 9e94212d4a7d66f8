use Rattle.plir_attr_text.specs.{Bytes.is_hex, laws.Lexing.past-length, laws.Lexing.front-taken}
use Rattle.plir_attr_text.proofs.strings.front_hex.Goals as goal

pub slice_bounds-result-count : goal.slice_bounds-result-count
slice_bounds-result-count c = rw c.past_hex-rest.ensures (past-length is_hex c.args.bytes.now)

pub returns : goal.returns
returns c = rw c.past_hex-rest.ensures (front-taken is_hex c.args.bytes.now)
