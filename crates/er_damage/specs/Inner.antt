-- What an inspector makes of each step. No clause that a caller needs cites these modules.
pub mod Steps
