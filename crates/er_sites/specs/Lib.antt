pub mod Counted
pub mod Inner
pub mod System
pub mod Table
pub mod Text
pub mod Mentions
pub mod Sites
