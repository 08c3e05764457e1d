pub mod Delimiters
pub mod Kinds
pub mod Header
pub mod Inner
