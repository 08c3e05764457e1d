pub mod Check
pub mod Number
