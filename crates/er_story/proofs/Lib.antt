pub mod HoldingLemmas
pub mod PastLemmas
pub mod StoryLemmas
