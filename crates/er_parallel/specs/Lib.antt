pub mod Crews
pub mod Faults
pub mod Inner
pub mod Limits
pub mod Tasks
pub mod Usual
