pub mod Narrow
pub mod Ways
pub mod OneOutcome
