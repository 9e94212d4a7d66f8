-- Laws of these words, proved beside them so that the crates above can cite them. No contract cites these modules.
--
--   Chains, Starts, Dictionaries, Found   what is read of a header stands there, and what stands there is read
--   Parts        what is left of a text behind the parts of a header
--   Lists, TypeLists   names and types that are read one after the other
pub mod Chains
pub mod Starts
pub mod Dictionaries
pub mod Found
pub mod Parts
pub mod Lists
pub mod TypeLists
