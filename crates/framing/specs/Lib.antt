pub mod Writing
pub mod Frames
