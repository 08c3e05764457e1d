pub mod Rows
pub mod Pieces
pub mod Fits
pub mod Steps
pub mod Closing
pub mod OneOutcome
