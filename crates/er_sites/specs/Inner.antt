-- What the code's parts keep true of one another. No public clause cites this.
pub mod Rows
