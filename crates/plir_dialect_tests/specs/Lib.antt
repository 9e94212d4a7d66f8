-- What the contracts of this crate cite.
--
--   View   id_of, is_name: the ids of the kinds, and which of them use symbols; has_effect, IsRight, AreUsesRight: what
--   passes and the verifiers ask
pub mod View
