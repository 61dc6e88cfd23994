pub mod Faults
pub mod Files
pub mod Inner
pub mod Merging
pub mod Notes
pub mod Printing
pub mod Replays
pub mod Stories
