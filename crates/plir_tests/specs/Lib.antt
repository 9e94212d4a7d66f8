-- What the contracts of this crate cite.
--
--   Holders      body_of, handles_of: texts and handles of types that hold types
--   HolderLaws   laws of these, for the op set that has such types
pub mod Holders
pub mod HolderLaws
