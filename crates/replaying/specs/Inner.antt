pub mod Usual
pub mod Asks
pub mod Asking
pub mod Pieces
