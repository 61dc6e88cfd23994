-- How far the answers to a batch have come, and a pass over a text.
pub mod Answering
pub mod Items
pub mod Passes
