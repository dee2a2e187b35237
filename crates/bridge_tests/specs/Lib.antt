pub mod Services
pub mod TwoPorts
