-- What the parts of the code keep true of one another. No public clause cites it.
pub mod Adding
