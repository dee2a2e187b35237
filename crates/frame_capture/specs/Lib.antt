pub mod Capture
pub mod Grammar
