pub mod Network
pub mod Numbers
pub mod Applying
pub mod Halting
pub mod Watching
pub mod Contents
