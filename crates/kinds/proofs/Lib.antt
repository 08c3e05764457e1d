pub mod Allowed
pub mod Named
pub mod Ranges
pub mod Rows
pub mod Naming
pub mod Following
pub mod OneOutcome
