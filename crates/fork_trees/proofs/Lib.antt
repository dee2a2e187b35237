pub mod WithEdge
pub mod Kept
pub mod Found
pub mod Changes
