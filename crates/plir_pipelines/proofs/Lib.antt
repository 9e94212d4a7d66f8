-- Lemmas that several functions need.
pub mod Zipped
pub mod Written
pub mod Tables
pub mod Bearing
pub mod Offering
pub mod Sets
pub mod Names
pub mod Answering
pub mod Flagged
pub mod FlagOffering
