-- Lemmas that several functions need.
pub mod Choosing
