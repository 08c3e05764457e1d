pub mod Classes
pub mod Inner
