pub mod Listings
pub mod Loop
