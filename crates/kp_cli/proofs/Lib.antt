pub mod Aside
pub mod Filled
pub mod Suits
pub mod Taken
pub mod Ending
pub mod Lines
pub mod Pipes
