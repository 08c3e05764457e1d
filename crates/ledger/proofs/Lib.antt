pub mod Ledgers
pub mod OneOutcome
