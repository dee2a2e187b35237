pub mod Addresses
pub mod Maps
