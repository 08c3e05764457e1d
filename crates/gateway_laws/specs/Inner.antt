pub mod Classes
pub mod Hearings
pub mod Own
