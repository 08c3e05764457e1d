pub mod Marks
pub mod PrintableBytes
pub mod Laws
