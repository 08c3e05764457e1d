pub mod Bringing
pub mod Going
