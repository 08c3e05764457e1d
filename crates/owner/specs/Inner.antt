pub mod Depths
pub mod Nearest
