pub mod Message
pub mod Faults
pub mod Refusals
pub mod Inner
