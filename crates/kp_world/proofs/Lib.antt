pub mod Playing
pub mod Moved
pub mod Delivered
pub mod Told
pub mod Handed
pub mod GoingOn
pub mod Leaving
