pub mod OneOutcome
mod Thin
