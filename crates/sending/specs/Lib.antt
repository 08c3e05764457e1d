pub mod Onward
pub mod Offered
