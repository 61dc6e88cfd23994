pub mod LineLemmas
pub mod PlainLemmas
pub mod SpaceLemmas
mod WriteLemmas
