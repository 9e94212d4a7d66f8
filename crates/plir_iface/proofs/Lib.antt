-- The lemmas that proofs of this crate cite.
pub mod Ends
pub mod FirstFailing
pub mod Spans
