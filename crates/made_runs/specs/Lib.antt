pub mod Applied
pub mod Making
pub mod Trying
pub mod MadeLaws
