pub mod Telling
pub mod Spelled
pub mod Scanning
pub mod Dumping
pub mod OneLog
pub mod OneDump
pub mod KeptLogs
