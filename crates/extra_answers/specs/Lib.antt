pub mod Refusing
pub mod Entries
pub mod Answers
pub mod Laws
