pub mod Limits
pub mod Closed
pub mod Turns
