pub mod CountLemmas
pub mod HoldLemmas
pub mod LineLemmas
pub mod StandLemmas
pub mod Exclusion
