-- What the contracts of this crate cite.
--
--   Meaning   Means: which function a call means; IsBodyMeant: the body of that
--   Listed    AreListed: the operations of a tree that a test keeps; IsCost: how many stand below a block
--   Plain     IsPlain: a body that holds no call by a name, no symbol, and one return, at its end
--   Calls     CanInlineCall: a copy of the block that a call means can come in its place
--   Steps     AreSteps: calls were inlined one after another; IsInlining, IsCutShort: what an inlining has done
--
-- What private functions share.
--
--   Listing   IsOpPut: what one step of a walk that lists operations leaves
--   Rounds    IsRoundEnd: how a round ends
--   Known     AreRight: what is known of bodies is so; AreSure, AgreeStill: tables that agree, and stay so
pub mod Meaning
pub mod Listed
pub mod Plain
pub mod Calls
pub mod Steps
pub mod Listing
pub mod Known
pub mod Rounds
