pub mod Places
pub mod Layouts
pub mod Judged
pub mod Controls
pub mod Inner
