pub mod Pieces
pub mod Steps
pub mod OneOutcome
