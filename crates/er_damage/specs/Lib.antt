pub mod Counts
pub mod Inner
pub mod Damage
pub mod Damaged
pub mod Standing
