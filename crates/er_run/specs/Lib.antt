pub mod Faults
pub mod Reports
pub mod Replays
pub mod Inner
