pub mod Standing
pub mod Stops
pub mod Wants
