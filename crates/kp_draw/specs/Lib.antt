pub mod Drawing
pub mod Pictured
pub mod Rows
