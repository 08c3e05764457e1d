pub mod Paper
pub mod InNumbers
pub mod Inner
