pub mod States
pub mod Hearing
pub mod Adjacency
pub mod Laws
pub mod Time
