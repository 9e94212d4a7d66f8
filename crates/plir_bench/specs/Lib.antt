-- What the contracts of this crate cite.
--
--   Illegal   is_reference: which kinds are replaced where a conversion is measured
--   Kinds     what operations of own kinds are: call_of what they call, returned_of what they hand back
pub mod Illegal
pub mod Kinds
