pub mod Walks
pub mod Entries
pub mod Removal
pub mod Storage
