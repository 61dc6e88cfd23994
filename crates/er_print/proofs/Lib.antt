pub mod CountLemmas
pub mod DigitLemmas
pub mod LineLemmas
pub mod PieceLemmas
pub mod ValueLemmas
