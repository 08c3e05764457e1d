pub mod Matching
pub mod TestByte
pub mod Controls
pub mod Laws
