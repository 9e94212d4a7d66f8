-- What the contracts of this crate cite.
--
--   EndKinds  what the kinds of the toy of `arguments` forward, and what may be taken out of them
pub mod EndKinds
