-- What the contracts of this crate cite.
--
--   Verdict      IsRefusal: how a verifier refuses
--   VerdictLaws  what follows from a refusal, for the proofs of every crate
--   Counts       how many regions, results and operands an operation has, and the rules of these numbers
--   CountRefusals  IsNRegionsRefusal and kin: how the rules of counts are refused
--   Regions      the rules of regions and blocks
--   Sides        types_on, type_in: operands and results as lists of types
--   SameTypes    the rules of one type
--   Places       IsAmong, NeedsMore, IsLongEnough: indices of a list that a rule is about
--   TypeRules    the rules of types that pass a test
--   TypeRefusals IsFault: how types break a rule, and what an error reports of it
--   IndexRange   IsIndexRange: ranges of indices in a list
--   Ids          op_id: the ids of operations
pub mod Verdict
pub mod VerdictLaws
pub mod Counts
pub mod CountRefusals
pub mod Regions
pub mod Sides
pub mod SameTypes
pub mod Places
pub mod TypeRules
pub mod TypeRefusals
pub mod IndexRange
pub mod Ids
