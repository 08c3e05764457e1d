pub mod Scratches
pub mod Puts
pub mod Readings
pub mod Acts
pub mod Ways
pub mod Events
pub mod OneOutcome
