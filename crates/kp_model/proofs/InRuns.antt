-- What holds in each world of a run: of its records, addressees, messages and logs.
pub mod Runs
pub mod RunLaws
pub mod Longer
pub mod Ranges
pub mod Addressees
pub mod KnownRecords
pub mod MessageLogs
pub mod LogEpochs
pub mod LogEnds
pub mod Sizes
