pub mod Options
pub mod Splitting
pub mod Numbers
pub mod Commas
