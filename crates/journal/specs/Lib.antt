pub mod Entries
pub mod Chain
pub mod Answers
pub mod Verdicts
pub mod Storage
pub mod Removal
pub mod Inner
