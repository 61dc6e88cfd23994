pub mod Taken
pub mod Spans
pub mod LeftOut
