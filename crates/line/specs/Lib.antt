pub mod Line
pub mod Seconds
pub mod Turn
