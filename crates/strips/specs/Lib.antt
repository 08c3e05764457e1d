pub mod Readers
pub mod Sights
pub mod Hearings
pub mod Replies
