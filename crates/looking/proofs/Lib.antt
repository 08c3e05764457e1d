pub mod Views
pub mod Looks
pub mod Cases
pub mod Fits
pub mod Alone
pub mod Joins
