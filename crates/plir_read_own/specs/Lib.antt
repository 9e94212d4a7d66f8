-- What the contracts of this crate cite.
--
--   OwnTerms     headers of own operations as they are written
--   OwnGrammar   HeaderWithin: which tokens stand for such a header
--   OwnReading   header_at: such headers as they are read, with the first fault that is met
--   OwnMeaning   IsHeader: what is held of a header that is written; StandsForHeader: by a text
--   laws         laws of these words, which no contract cites
pub mod OwnTerms
pub mod OwnGrammar
pub mod OwnReading
pub mod OwnMeaning
pub mod laws
