pub mod Inner
pub mod Names
pub mod Story
pub mod Tale
pub mod Text
