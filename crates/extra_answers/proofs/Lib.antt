pub mod Plans
pub mod Checked
pub mod Named
pub mod Passed
