pub mod Agreement
pub mod Counting
pub mod Tasks
