pub mod Following
pub mod Failing
pub mod Entries
pub mod Laws
pub mod Labels
pub mod Claim
