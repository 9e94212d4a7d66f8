-- A token as the reader sees it.
use Rattle.plir_attr_text.specs.Tokens.{Token, word, digits, signed, arrow, sign}
use Rattle.plir_attr_text.specs.{Bytes.value_after, declared.tokens.Piece.Piece}
use Rattle.plir_attr_text.specs.declared.tokens.Piece.TheVariants as pieces

abbrev pub token_of : Piece → Token
token_of (pieces.Word w) = word w.now
token_of (pieces.Digits ds) = digits (value_after 0 ds.now)
token_of (pieces.Signed negative ds) = signed negative (value_after 0 ds.now)
token_of pieces.Arrow = arrow
token_of (pieces.Sign b) = sign b
