-- Laws of plain logs, sets and records: no world stands in them.
pub mod Beginnings
pub mod Logs
pub mod Following
pub mod FetchLimit
pub mod Cuttings
pub mod Entries
pub mod EpochCaches
pub mod Shown
pub mod CutPlaces
pub mod Numbers
pub mod Changed
pub mod Compared
pub mod InRange
pub mod SameRecords
