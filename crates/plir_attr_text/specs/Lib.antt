-- What the contracts of this crate cite.
--
--   Bytes, Tokens, Pieces        kinds of bytes; a text as tokens, and a token as it is read
--   Strings, Units               what stands between two `"`, with escapes
--   Terms                        types and attributes as they are written
--   TypeGrammar, AttrGrammar     IsText: which tokens stand for a type, for an attribute
--   Names, Parts                 the handles that written types name, and the types that others are made of
--   Meaning, MeantBy             StandsFor: the attribute that a text stands for; what a reader holds is meant by what
--   is written
--   Steps, Lists, Wholes         reading step by step, of lists, of whole texts
--   TypeReading, AttrReading     type_at, attr_at: types and attributes as they are read, with the first fault that is
--   met
--   Levels                       level_at: where a level begins
--   TypesIn                      which types are read in a text
--   TypesWritten                 IsWrittenIn: which types are written in a text
--   Faults                       IsOfText: which faults are of a text; HasNoPlace: where no place is told
--   Reading                      Reads, Gives: what a reader answers, by what is read
--   Written, AttrText            attr_text: the text of an attribute
--   OpSetTexts                   attribute_text: the same by the answers of an op set
--   Writable                     attributes that texts can stand for
--   AttrAnswer, AttrReadBack     what the reader of attributes answers; that it reads back what was printed
pub mod Bytes
pub mod Steps
pub mod Strings
pub mod Units
pub mod Tokens
pub mod Pieces
pub mod Terms
pub mod TypeGrammar
pub mod Names
pub mod Lists
pub mod TypeReading
pub mod Levels
pub mod Wholes
pub mod Faults
pub mod Reading
pub mod AttrGrammar
pub mod Written
pub mod AttrText
pub mod OpSetTexts
pub mod AttrReading
pub mod TypesIn
pub mod TypesWritten
pub mod Parts
pub mod Meaning
pub mod MeantBy
pub mod Writable
pub mod AttrAnswer
pub mod AttrReadBack
pub mod TextLaws
-- Laws of these words, proved beside them; no contract cites them.
pub mod laws
