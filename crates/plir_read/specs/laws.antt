-- Laws of these words, proved beside them so that the crates above can cite them. No contract cites these modules.
--
--   StartFound, Dictionaries, OpFound   what is read of an operation stands there
--   OpEnds       what is left of a text behind each part of an operation
--   Kept         what is kept where nodes come, and what is kept on and on
--   Frames       written operations go on standing in a context while others are made
--   SlotLaws, TreesInOrder   the slots of nodes, and trees in the order of a text, as nodes come
--   OpMade       operations and blocks that are made of what was read
--   TypesNamed   types that are new are named by those that are written
pub mod StartFound
pub mod Dictionaries
pub mod OpFound
pub mod OpEnds
pub mod Kept
pub mod Frames
pub mod SlotLaws
pub mod TreesInOrder
pub mod OpMade
pub mod TypesNamed
