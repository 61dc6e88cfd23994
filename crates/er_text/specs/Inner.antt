-- What the code's parts keep true of one another. Of public clauses those of a reader of batches alone cite it.
pub mod Ahead
pub mod Parsing
pub mod Idle
pub mod Traces
pub mod Endings
pub mod FastPath
pub mod Pieces
pub mod Ready
pub mod Numbers
