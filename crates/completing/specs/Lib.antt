pub mod Deciding
pub mod Inner
