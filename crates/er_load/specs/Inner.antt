pub mod Accepted
pub mod Progress
pub mod Scripts
