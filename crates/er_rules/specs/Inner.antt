pub mod Index
pub mod Pieces
pub mod Reach
pub mod Rules
pub mod RuleLines
