pub mod Trimmed
pub mod Findings
pub mod Inner
