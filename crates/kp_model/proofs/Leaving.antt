-- What a process of nodes leaves, and how a new one goes on from it.
pub mod Going
pub mod Stopping
pub mod Losing
pub mod Tearing
pub mod Noting
