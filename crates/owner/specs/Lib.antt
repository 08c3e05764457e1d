pub mod Levels
pub mod Owners
pub mod Reading
pub mod Inner
