pub mod Members
pub mod Joined
pub mod Writes
pub mod Steps
pub mod Changes
pub mod Frees
pub mod Agreed
