-- Where watermarks and checkpoints come from, and what leaders have.
pub mod NodeMarks
pub mod Raised
pub mod Leaders
