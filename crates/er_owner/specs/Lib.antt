pub mod Packed
pub mod Advancing
pub mod Numbering
