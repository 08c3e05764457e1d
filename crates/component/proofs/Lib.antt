pub mod Stops
pub mod Fields
pub mod OneOutcome
