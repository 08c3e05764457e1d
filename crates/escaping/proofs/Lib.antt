pub mod Escapes
pub mod Unescapes
pub mod RoundTrips
pub mod Examples
pub mod OneOutcome
pub mod Tables
