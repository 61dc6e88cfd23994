-- What the search for a line of a file comes to. No public clause cites it.
pub mod Excerpts
