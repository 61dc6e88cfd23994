pub mod Owned
pub mod Kinds
pub mod Statuses
pub mod Answers
pub mod Accesses
pub mod Recorded
pub mod Settlements
