pub mod BriefLemmas
pub mod MachineLemmas
pub mod RunsLemmas
pub mod ThreadsLemmas
pub mod StopsLemmas
