pub mod RunLaws
pub mod Whole
pub mod RowSteps
pub mod Agree
pub mod Valid
pub mod OneBelow
pub mod Answers
pub mod OneOutcome
