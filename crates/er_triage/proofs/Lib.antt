pub mod FirstLemmas
pub mod KnownLemmas
pub mod CountLemmas
pub mod ReadBackLemmas
pub mod TraceNameLemmas
pub mod UnusedLemmas
pub mod FactLemmas
