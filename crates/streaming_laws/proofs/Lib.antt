pub mod Whole
pub mod Due
pub mod Turning
pub mod Arriving
pub mod Streams
