pub mod Filter
pub mod Near
pub mod Searched
pub mod Lent
pub mod Client
pub mod Laws
pub mod Lines
pub mod Looked
