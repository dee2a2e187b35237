pub mod Edges
pub mod Set
