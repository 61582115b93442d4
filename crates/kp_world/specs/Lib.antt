pub mod Answers
pub mod Events
pub mod Plays
pub mod Shown
pub mod Laws
pub mod Left
