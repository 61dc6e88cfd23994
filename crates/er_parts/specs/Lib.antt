pub mod Given
pub mod Merged
pub mod Ordered
pub mod Parts
