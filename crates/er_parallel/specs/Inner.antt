pub mod Crewing
pub mod Faults
pub mod Gathering
pub mod Merging
pub mod Taking
