-- Definitions at small logs, and short runs, worked out by hand.
pub mod Examples
pub mod ExampleRun
pub mod FirstRun
pub mod OneCut
pub mod TwoCuts
pub mod Reconciling
pub mod Proposing
