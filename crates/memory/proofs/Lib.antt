pub mod Branches
pub mod Tests
pub mod Table
pub mod Parts
pub mod Lines
pub mod Moves
pub mod OneOutcome
