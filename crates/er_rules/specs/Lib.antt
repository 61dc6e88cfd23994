pub mod Inner
pub mod Patterns
pub mod Rules
pub mod Targets
pub mod Texts
