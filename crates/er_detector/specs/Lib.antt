pub mod Calls
pub mod Limits
pub mod Races
pub mod Settlement
