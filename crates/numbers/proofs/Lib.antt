pub mod Numbers
pub mod Changes
pub mod OneOutcome
