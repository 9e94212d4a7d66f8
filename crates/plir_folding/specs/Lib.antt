-- What the contracts of this crate cite.
--
--   Worth      Evaluates: what values evaluate to; folded: what a value folds to whose operation stands on constants;
--              IsSettled, AreSettled: no operand of an operation folds, and none below a node
--   Sums       wrapping_sum: the sum of two integers of one type and one width; is_zero: whether one is 0
--   Folded     IsFolded: operands have become constants of what they evaluate to, and nothing else has changed
--   Folding    how far the loops have come
--   Identities  stands_for: which operand an operation hands on, so that its result stands for it; IsPassed, ArePassed:
--              nothing is left to be done, at an operation and below a node
--   PassedOn   IsPassedOn: operands have become values that the identities of operations say they are, and nothing else
--              has changed
--   Merged     IsMerged: constants of the same integer in a block have become the first one of them, wherever they were
--              operands, and nothing else has changed
--   Merging    which constants are to be merged, and how far the search for them has come
--   Worklists  what is listed and what waits, while operations are folded behind those that make their operands
pub mod Worth
pub mod Sums
pub mod Folded
pub mod Folding
pub mod Identities
pub mod PassedOn
pub mod Worklists
pub mod Merged
pub mod Merging
