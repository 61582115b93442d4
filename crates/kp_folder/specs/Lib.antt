pub mod Files
pub mod Left
pub mod Bad
pub mod Kept
