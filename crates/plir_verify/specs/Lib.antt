-- What the contracts of this crate cite.
--
--   Rules          HasRules, AllHaveRules: an operation, and a tree, that is right
--   RuleRefusals   IsTreeRefusal: what is reported of a tree that is not
pub mod Rules
pub mod RuleRefusals
