pub mod Adding
pub mod Explained
