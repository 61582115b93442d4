-- Every run is safe: what is held stays held.
pub mod Held
pub mod HeldNodes
pub mod HeldSteps
pub mod HeldMarks
pub mod HeldMessages
pub mod HeldRecord
pub mod HeldPropose
pub mod HeldDecide
pub mod HeldAgree
pub mod HeldGrown
pub mod Members
pub mod HeldOnto
pub mod HeldAppend
pub mod HeldLeads
pub mod HeldEvents
pub mod HeldRuns
pub mod Known
