pub mod OfKinds
pub mod Walked
pub mod Reported
pub mod Entries
