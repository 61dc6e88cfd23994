pub mod Answered
pub mod Ordered
pub mod Reasons
pub mod Reports
pub mod Standing
pub mod Stops
pub mod Tags
