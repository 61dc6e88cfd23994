pub mod Names
pub mod Trace
pub mod Appended
pub mod Inner
