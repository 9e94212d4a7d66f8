-- What the contracts of this crate cite.
--
--   Legal      is_illegal, HasLegalChildren, IsUntouched: operations of illegal kinds, and what is none and stands
--              below none
--   Kept       Keeps: what a change leaves of the nodes that stand apart from it, and of the types
--   Rewritten  IsRewriting, IsReplaced: one operation is replaced; IsConverted: what many such changes leave
--   Prepared   IsPrepared: how far a replacement has come where nothing is gone yet; IsPutBefore: an operation was made
--              and put before another one
--   Rewrites   IsRewrite: one call of `rewrite`; IsBlockConverted, IsConversion: the calls that convert a block, and
--              all that stands below an operation
--   Converted  IsConvertedAt: what the call of a walk at a node leaves
--   ConversionLaws  kept_by_conversion: what each call of `rewrite` keeps, the conversion keeps
--   Replacing  Replacements: what a rewrite may do
--   Dead       IsUsedBy, AreDead, HasNoDead: dead operations, and that none is left
--   Swept      IsSwept: dead operations are gone, and nothing else has changed
--   Worklists  which operations are listed, and which wait to be looked at
--   Marked     which operations are marked, in the order in which they were
--   Reached    IsReached: what is reached from a root; IsReachedLeft: that is left, and nothing else has changed
--   Seeking    what is of a kind that ends a block, below a node
--   Cutting    IsCut, AreErased: operations let go of what they use, and are gone
--   Passing    how far the loops over a block have come
pub mod Legal
pub mod Kept
pub mod Rewritten
pub mod Prepared
pub mod Rewrites
pub mod Converted
pub mod ConversionLaws
pub mod Replacing
pub mod Dead
pub mod Swept
pub mod Worklists
pub mod Marked
pub mod Reached
pub mod Seeking
pub mod Cutting
pub mod Passing
