pub mod Local
pub mod Content
pub mod Graph
pub mod Building
pub mod Members
pub mod Folding
pub mod Fragments
pub mod Laws
