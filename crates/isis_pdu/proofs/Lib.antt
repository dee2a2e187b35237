pub mod Bytes
pub mod Sums
pub mod TlvWalk
pub mod Written
pub mod Read
pub mod FormatLaws
