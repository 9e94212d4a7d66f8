-- What the contracts of this crate cite.
--
--   Spots      spot_past: lines and columns
--   Leads      begins_op: whether an operation begins with a character
--   OpPlaces   op_places: where operations begin in a text
--   TreeOps    AreOps: the operations of a tree, in their order
--   OpsAmong   laws of the operations among some nodes
--   Placed     ArePlaced: they have got places
pub mod Spots
pub mod Leads
pub mod OpPlaces
pub mod TreeOps
pub mod OpsAmong
pub mod Placed
