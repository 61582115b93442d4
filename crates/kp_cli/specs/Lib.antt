pub mod Faults
pub mod Left
pub mod Line
pub mod Perform
pub mod Piped
pub mod Program
pub mod Raced
pub mod Told
