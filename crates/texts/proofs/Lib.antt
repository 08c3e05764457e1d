pub mod Ways
pub mod OneOutcome
