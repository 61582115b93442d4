pub mod Finding
pub mod Moving
pub mod Paired
