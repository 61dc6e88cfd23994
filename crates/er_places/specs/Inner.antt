-- What the code's parts keep true of one another. No public clause cites these modules.
pub mod Following
pub mod Noting
pub mod Sites
