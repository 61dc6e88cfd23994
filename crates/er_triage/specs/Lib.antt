pub mod Facts
pub mod First
pub mod Known
pub mod Notes
pub mod Sound
pub mod Texts
pub mod Inner
