-- What the contracts of this crate cite: the ids of its kinds, that an id names no kind but one that has it,
-- and that the id of a kind names that kind.
pub mod Kinds
pub mod IdLaws
