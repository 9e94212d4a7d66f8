-- Names that are read one after the other.
use Rattle.std.proofs.Common.{◌≡◌, ◌++◌, List, [], ◌∷◌}
use Rattle.std.proofs.lemmas.List.{map-append}
use Rattle.plir_read_ir.specs.Spelling.{word_of, words}
use Rattle.plir_read_ir.specs.declared.spelled.Spelled.{Spelled}

pub words_push : (xs : List Spelled) (s : Spelled) → words (xs ++ s ∷ []) ≡ words xs ++ word_of s ∷ []
words_push xs s = map-append word_of xs (s ∷ [])
