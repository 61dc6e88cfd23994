pub mod Faults
pub mod Headings
pub mod Laws
pub mod Lines
pub mod Parts
pub mod Merging
pub mod Texts
pub mod Traces
