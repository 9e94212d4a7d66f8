-- What the contracts of this crate cite.
--
--   Meanings     meaning: what a name means, by a scan of those that bear names; Says: a table says so of each name
--   Tables       meanings: what a table says
pub mod Meanings
pub mod Tables
