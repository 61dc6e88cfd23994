pub mod AnswerListLemmas
pub mod Merges
mod RangeLemmas
