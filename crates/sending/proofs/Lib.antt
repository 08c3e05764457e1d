pub mod Pieces
pub mod Offered
pub mod Fits
pub mod OneOutcome
