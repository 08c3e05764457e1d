pub mod Packing
pub mod Octets
pub mod OneOutcome
