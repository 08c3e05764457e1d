pub mod Blocks
pub mod Walks
pub mod Memos
