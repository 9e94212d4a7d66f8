-- What the contracts of this crate cite.
--
--   Agreement   TablesAgree: all tables agree with a context
pub mod Agreement
