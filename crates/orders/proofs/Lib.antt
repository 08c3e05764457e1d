pub mod Looks
pub mod Ways
pub mod OneOutcome
