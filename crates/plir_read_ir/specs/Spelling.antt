-- Names as they stand in a text.
use Rattle.std.specs.Prelude.{ℕ, map, List}
use Rattle.plir_read_own.specs.OwnTerms.{Uses}
use Rattle.plir_read_ir.specs.declared.spelled.Spelled.{Spelled}
use Rattle.plir_read_ir.specs.declared.uses.SpelledUses.{SpelledUses}

-- the word of a name
abbrev pub word_of : Spelled → List ℕ
word_of s = s.word.now

-- the words of names
abbrev pub words : List Spelled → List (List ℕ)
words ss = map word_of ss

-- what is used, by the words
abbrev pub uses_of : SpelledUses → Uses
uses_of u = record { operands = words u.operands.items; successors = words u.successors.items }
