pub mod Ruled
pub mod Lents
