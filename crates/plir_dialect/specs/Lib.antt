-- What the contracts of this crate cite.
--
--   Tests      IsSure, Passes: tests of handles
--   Errors     IsOfKind, IsOfAttr: a refusal of a part, as one of the whole set
--   Verdicts   verdict_of: the verdict of a part, as one of the whole
--   OwnKinds   AsksOfKind, ReportsOfKind: what is asked of operations by their own kinds, and reported of them;
--   by_kind: an answer by what an operation holds
--   Sides      at_side, AsksOfSide, ReportsOfSide: the same for a thing of one of two dialects; AreApart, IdsTellSides:
--   ids of the two
pub mod Tests
pub mod Errors
pub mod Verdicts
pub mod OwnKinds
pub mod Sides
