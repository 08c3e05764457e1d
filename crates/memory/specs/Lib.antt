pub mod Sizes
pub mod Parts
pub mod Moves
pub mod Tests
