pub mod Writing
pub mod Taking
pub mod Going
pub mod Reading
pub mod Octets
pub mod SingleRounds
pub mod Counting
pub mod Completing
pub mod Convergence
pub mod Commands
pub mod Rounds
pub mod Putting
pub mod Captured
pub mod Foretold
pub mod Questions
mod Asked
