pub mod Items
pub mod Texts
