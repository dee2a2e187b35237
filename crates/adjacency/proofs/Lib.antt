pub mod Neighbours
pub mod Refreshing
pub mod Time
pub mod Counted
