pub mod Pieces
pub mod ValueLists
pub mod HeadersUnder
pub mod HeaderCalls
pub mod OneLevel
pub mod RegionPlaces
pub mod Stepping
