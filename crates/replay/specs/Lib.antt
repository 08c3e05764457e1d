pub mod Replays
pub mod Faults
pub mod Inner
