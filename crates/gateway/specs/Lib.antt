pub mod Gateway
pub mod Events
pub mod Out
