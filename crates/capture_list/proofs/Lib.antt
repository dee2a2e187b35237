pub mod Telling
pub mod Gathering
pub mod LinePuts
