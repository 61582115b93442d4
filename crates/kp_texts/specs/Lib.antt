pub mod Texts
pub mod Seen
pub mod Reading
