-- All logs of a run are kin.
pub mod SoundLogs
pub mod Ledger
pub mod Kin
pub mod KinRuns
