pub mod Seats
pub mod Texts
pub mod Faults
pub mod Runs
pub mod Inner
