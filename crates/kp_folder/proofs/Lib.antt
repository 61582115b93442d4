pub mod Known
pub mod Chains
pub mod NodeRows
pub mod NodeFacts
pub mod KeptNodes
