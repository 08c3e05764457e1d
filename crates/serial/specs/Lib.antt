pub mod Serial
pub mod Kept
pub mod Inner
