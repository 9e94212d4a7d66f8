-- What the contracts of this crate cite.
--
--   Toy, My   id_of: the ids of two dialects' kinds; fold_of, has_effect, IsRight: what passes and the verifier ask
--   MyLaws    a law of what holds one handle
pub mod Toy
pub mod My
pub mod MyLaws
