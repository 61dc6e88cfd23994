pub mod Builder
pub mod Inner
pub mod Kept
pub mod Lines
pub mod Names
pub mod Reasons
pub mod Report
pub mod Reports
