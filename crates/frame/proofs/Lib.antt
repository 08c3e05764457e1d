pub mod Collected
pub mod Passed
pub mod Laws
