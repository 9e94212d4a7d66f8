-- The lemmas that proofs of this crate cite.
pub mod SegmentLists
pub mod SizesPut
pub mod SegmentsPut
pub mod Ranges
pub mod Popping
pub mod SegmentPlaces
pub mod Forwarded
pub mod BranchFaults
pub mod TakenLists
pub mod Hopping
pub mod Exact
pub mod LiveEdges
pub mod Reaching
pub mod EdgeRules
