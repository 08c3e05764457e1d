pub mod Trims
pub mod Puts
pub mod Fills
pub mod Ways
pub mod Examples
