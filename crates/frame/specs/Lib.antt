pub mod Shape
pub mod Piece
