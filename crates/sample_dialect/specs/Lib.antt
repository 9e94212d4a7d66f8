-- What the contracts of this crate cite.
--
--   Answers   what the queries of the kinds answer: ids, effects, what is folded
--   IdLaws    has_its_id: an id names no kind but one that has it; finds_it: the id of a kind names that kind
--   Flow      call_of, returned_of, forwards_of: what operations call, hand back and forward
--   Rules     IsRight: how an operation of each kind stands
pub mod Answers
pub mod IdLaws
pub mod Flow
pub mod Rules
