pub mod Ways
pub mod Passing
pub mod Best
pub mod Walking
pub mod Placed
pub mod Told
pub mod Verdicts
pub mod Arcs
pub mod Proved
pub mod Lasts
mod Kept
