-- What the contracts of this crate cite.
--
--   Links   IsLinked: an operation uses a symbol that stands beside it
--   Pairs   what the kinds of the test set answer and ask
pub mod Links
pub mod Pairs
