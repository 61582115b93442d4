-- What answers do in a run: cuts, and what is taken.
pub mod Pieces
pub mod Deliveries
pub mod Cutting
