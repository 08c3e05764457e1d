pub mod Stages
pub mod Fed
pub mod Handed
pub mod Said
pub mod Streams
pub mod Inner
