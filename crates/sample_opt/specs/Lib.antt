-- What the contracts of this crate cite.
--
--   Rounds   AreSwept: what sweeps leave, one after another; rounds_rule: how many of them an option asks for
pub mod Rounds
