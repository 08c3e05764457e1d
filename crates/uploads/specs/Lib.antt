pub mod Uploads
pub mod Host
pub mod Calls
pub mod Inner
