pub mod Lines
pub mod Desk
pub mod Turns
pub mod Runs
pub mod Listed
pub mod Inner
pub mod Lents
