pub mod Keeps
pub mod Cases
pub mod AnyChain
pub mod Guarantees
pub mod Queue
