pub mod Newlines
pub mod Ways
pub mod Pieces
pub mod InPieces
