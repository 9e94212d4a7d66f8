-- What the contracts of this crate cite.
--
--   Lasts   over which changes the tables of a collection agree as they did
pub mod Lasts
