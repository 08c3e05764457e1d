pub mod Decisions
pub mod Inner
