-- What the code's parts keep true of one another. No public clause cites it.
pub mod Windows
pub mod Blocks
pub mod Prefixes
