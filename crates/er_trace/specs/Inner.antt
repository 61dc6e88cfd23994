-- What the code's parts keep true of one another. No public clause cites these modules.
pub mod Recent
pub mod Renumbering
