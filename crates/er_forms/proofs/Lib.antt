pub mod InertLemmas
pub mod JoinLemmas
