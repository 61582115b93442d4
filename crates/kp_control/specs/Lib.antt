pub mod Word
pub mod Altering
