pub mod Written
pub mod Laws
pub mod Limits
pub mod OneOutcome
