pub mod Packets
pub mod Listings
pub mod Written
