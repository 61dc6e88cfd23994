pub mod Pieces
pub mod Chunks
pub mod Inner
