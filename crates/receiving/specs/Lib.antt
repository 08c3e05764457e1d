pub mod Verdicts
pub mod Settled
pub mod Steps
pub mod Alone
pub mod Closing
pub mod Inner
