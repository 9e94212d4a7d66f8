-- What the contracts of this crate cite.
--
--   Kinds     what the queries of the kinds answer, and which kinds are sums
--   Lowered   IsLowered: a sum became a negation and a difference; IsAnswered: that, by the answer
pub mod Kinds
pub mod Lowered
