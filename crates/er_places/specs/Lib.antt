pub mod Facts
pub mod Names
pub mod Places
pub mod Races
pub mod Wanted
pub mod Reasons
pub mod Inner
