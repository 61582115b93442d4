pub mod InRange
pub mod Lists
pub mod Counting
pub mod Steps
pub mod Fitting
pub mod OwnWords
pub mod RecordWord
mod Deciding
pub mod MarkWord
pub mod Sharing
pub mod TakenBack
pub mod Sits
pub mod Refusals
