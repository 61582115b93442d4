pub mod Reports
pub mod Joining
pub mod Laws
