pub mod Pieces
pub mod Inner
