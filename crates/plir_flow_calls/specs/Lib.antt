-- What the contracts of this crate cite.
--
--   Loops   IsLoop, loop_edges: a loop and its edges
pub mod Loops
