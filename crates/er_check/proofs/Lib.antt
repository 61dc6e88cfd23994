pub mod ClaimLemmas
pub mod EraLemmas
pub mod PairLemmas
pub mod OnceLemmas
pub mod AccessLemmas
pub mod ExplainLemmas
