pub mod Placed
pub mod Texts
pub mod Message
pub mod Fields
pub mod Says
