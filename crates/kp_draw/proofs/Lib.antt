pub mod Growing
pub mod Titling
pub mod Spelled
