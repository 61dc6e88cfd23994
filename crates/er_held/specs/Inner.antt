pub mod Halving
pub mod Holding
