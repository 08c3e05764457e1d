pub mod Control
pub mod Allowed
pub mod Inner
