pub mod Epochs
pub mod Known
pub mod Words
pub mod Standing
