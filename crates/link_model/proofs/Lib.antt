pub mod LaneLemmas
mod IdleLemmas
