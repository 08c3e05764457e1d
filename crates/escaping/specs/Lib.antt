pub mod Letters
pub mod Escape
pub mod Unescape
pub mod Inner
