pub mod Device
pub mod Keeping
