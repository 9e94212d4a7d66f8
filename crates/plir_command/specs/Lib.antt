-- What the contracts of this crate cite.
--
--   Chosen   IsChosen: which passes a command line asks for; IsChoiceRefused: why it asks for none
pub mod Chosen
