-- What the parts of a replay leave. No public clause cites it.
pub mod Opened
pub mod Writes
