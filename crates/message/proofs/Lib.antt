pub mod Breaks
pub mod Remaining
pub mod Heading
pub mod Starting
pub mod Tallies
pub mod Walking
pub mod OneOutcome
