pub mod Decisions
pub mod Joined
pub mod OneOutcome
