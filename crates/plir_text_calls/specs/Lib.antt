-- What the contracts of this crate cite.
--
--   Copies      IsCopyRefusal: why an operation is not copied by its text
--   TextKinds   id_of, kind_of, is_closed: the kinds of the op set of operations that are read back
--   TextIds     has_its_id: an id names no kind but one that has it; finds_it: the id of a kind names that kind, if any
pub mod Copies
pub mod TextKinds
pub mod TextIds
