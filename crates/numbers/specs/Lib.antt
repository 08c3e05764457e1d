pub mod Plain
pub mod Changes
pub mod Inner
