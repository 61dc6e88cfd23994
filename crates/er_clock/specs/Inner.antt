pub mod Merging
pub mod Taken
