pub mod Changes
pub mod Passing
pub mod Laws
