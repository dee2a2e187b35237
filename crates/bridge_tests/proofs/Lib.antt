pub mod ManyServices
mod Services
mod TwoPorts
