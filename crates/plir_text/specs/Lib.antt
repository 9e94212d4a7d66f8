-- What the contracts of texts cite, passed on from the crates that define it.
--
-- Types and attributes: which tokens stand for one, what a text means, the text of an attribute, what can be written,
-- and what the readers answer.
pub use Rattle.plir_attr_text.specs.Terms
pub use Rattle.plir_attr_text.specs.TypeGrammar
pub use Rattle.plir_attr_text.specs.AttrGrammar
pub use Rattle.plir_attr_text.specs.Names
pub use Rattle.plir_attr_text.specs.Parts
pub use Rattle.plir_attr_text.specs.Meaning
pub use Rattle.plir_attr_text.specs.TypesIn
pub use Rattle.plir_attr_text.specs.TypesWritten
pub use Rattle.plir_attr_text.specs.TypeReading
pub use Rattle.plir_attr_text.specs.AttrReading
pub use Rattle.plir_attr_text.specs.Faults
pub use Rattle.plir_attr_text.specs.Wholes
pub use Rattle.plir_attr_text.specs.AttrText
pub use Rattle.plir_attr_text.specs.OpSetTexts
pub use Rattle.plir_attr_text.specs.Writable
pub use Rattle.plir_attr_text.specs.AttrAnswer
pub use Rattle.plir_attr_text.specs.AttrReadBack
-- Operations and edges, printed.
pub use Rattle.plir_print.specs.Dictionaries
pub use Rattle.plir_print.specs.HeaderAttrs
pub use Rattle.plir_print.specs.OpText
pub use Rattle.plir_print.specs.WholeText
pub use Rattle.plir_print.specs.EdgeText
-- Operations, read.
pub use Rattle.plir_read.specs.OpTerms
pub use Rattle.plir_read.specs.OpGrammar
pub use Rattle.plir_read.specs.OpReading
pub use Rattle.plir_read.specs.OpsStanding
pub use Rattle.plir_read.specs.Keeping
pub use Rattle.plir_read.specs.Slots
pub use Rattle.plir_read.specs.Room
pub use Rattle.plir_read.specs.HeldTypes
-- What is read back.
pub use Rattle.plir_roundtrip.specs.Readable
pub use Rattle.plir_roundtrip.specs.OpAnswer
