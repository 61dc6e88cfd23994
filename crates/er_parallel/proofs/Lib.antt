pub mod CrewLemmas
pub mod FollowingLemmas
pub mod GatheringLemmas
pub mod MergingLemmas
pub mod TakingLemmas
