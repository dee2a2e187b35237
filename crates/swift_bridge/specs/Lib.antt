pub mod Following
pub mod Shown
pub mod Lent
