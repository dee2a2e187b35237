pub mod Ids
pub mod Premises
pub mod Settling
