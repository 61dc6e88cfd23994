-- What the parts of a replay keep true of one another.
pub mod Inspected
pub mod Outcomes
pub mod Written
