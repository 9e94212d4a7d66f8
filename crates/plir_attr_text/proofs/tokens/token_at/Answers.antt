use Rattle.std.proofs.Common.{◌≡◌, get_or, true, sym, ◌∙◌}
use Rattle.plir_data.specs.Identifier.{is_letter}
use Rattle.plir_attr_text.specs.laws.Lexing.{word_taken, word-length, tail_is}
use Rattle.plir_attr_text.proofs.tokens.token_at.Goals as goal

pub slice_bounds-word-count : goal.slice_bounds-word-count
slice_bounds-word-count c = rw (c.past_word-rest.ensures, tail_is c.args.bytes.now) (word-length c.args.bytes.now)

pub returns-then-is_letter-clause-found : goal.returns-then-is_letter-clause-found
returns-then-is_letter-clause-found c =
    let xs = c.args.bytes.now in
    let seen : is_letter (get_or xs 0 0) ≡ true = sym c.is_letter.ensures ∙ c.if-is_letter.true in
    rw (c.past_word-rest.ensures, tail_is xs) (word_taken xs c.in-len1-up.len_at_least seen)
