pub mod Seals
pub mod Joined
pub mod Pieces
pub mod EpochStarts
pub mod Fronts
pub mod RisingNodes
pub mod RecordFronts
pub mod OneText
