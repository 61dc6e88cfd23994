pub mod Clock
pub mod NoTick
pub mod Table
pub mod Counts
pub mod Crowding
pub mod Standing
pub mod Inner
