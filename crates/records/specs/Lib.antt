pub mod Fields
pub mod Records
pub mod Inner
