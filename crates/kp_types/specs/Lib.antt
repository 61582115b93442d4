pub mod Texts
pub mod Causes
pub mod Devices
pub mod Folders
