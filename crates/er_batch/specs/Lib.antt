pub mod Limits
pub mod Runs
pub mod Analysts
pub mod Touching
pub mod Inner
