-- What the contracts of this crate cite.
--
--   Kinds   ends_block, id_of: the kinds of the tests' op set
pub mod Kinds
