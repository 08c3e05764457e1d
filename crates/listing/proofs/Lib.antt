pub mod ReadBack
pub mod Operands
pub mod Stores
pub mod Columns
pub mod Bounds
pub mod OneOutcome
pub mod Examples
