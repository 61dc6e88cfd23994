pub mod Claims
pub mod Access
