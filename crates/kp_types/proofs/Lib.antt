pub mod Fronts
pub mod Filing
pub mod Elements
pub mod Ordered
pub mod Numbers
pub mod Causes
pub mod Heads
