pub mod ClockLemmas
pub mod Parts
pub mod TableLemmas
pub mod Counts
pub mod Outcomes
pub mod Standing
pub mod Notes
