pub mod Put
pub mod ReadBack
pub mod Accepted
pub mod OneOutcome
