pub mod Apart
pub mod Few
pub mod Counting
pub mod Advancing
pub mod Dropping
pub mod Brief
