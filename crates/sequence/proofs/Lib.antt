pub mod Decimal
pub mod OneOutcome
