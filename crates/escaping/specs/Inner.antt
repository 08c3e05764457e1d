pub mod Passes
pub mod Table
