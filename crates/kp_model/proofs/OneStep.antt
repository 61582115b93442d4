-- What a step is, what an action does by what it changes, and what a step leaves, sends and shows.
pub mod Steps
pub mod Classes
pub mod Parts
pub mod LogSteps
pub mod LogCuts
pub mod Sends
pub mod Sending
pub mod Adopting
pub mod Letters
pub mod ByLetter
