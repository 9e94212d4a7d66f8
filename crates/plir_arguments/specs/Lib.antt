-- What the contracts of this crate cite.
--
--   Removed    ForwardsLess: what an operation holds that forwards one value less; IsOpChanged: one operation has come
--              to hold something else, and nothing else has changed; is_told: a test of what an operation holds
--   Dropped    CanDrop: an argument can be dropped; IsDropped: it has been; moved: what the other arguments have become
--   Turned     AreUses: the uses of a block; IsTurned: what a branch holds that goes to the new block; AreTurned: all
--              branches do
--   Standing   IsPutFor: a block has come in place of another one, with its operations
--   Steps      AreSteps: arguments that were dropped one after another, each an IsDropped; CanDropBelow: one of a block
--              below a root can be; NoneLeft: none can; AreAllDropped and AreCutShort: how the pass ends
--   Listed     AreBlocksBelow: the blocks of a tree; num_arguments: how many arguments they have; IsSearched: one of
--              these can be dropped, or none can
pub mod Removed
pub mod Turned
pub mod Dropped
pub mod Standing
pub mod Steps
pub mod Listed
