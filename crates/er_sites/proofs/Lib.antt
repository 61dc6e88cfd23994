pub mod NameLemmas
pub mod ExampleLemmas
pub mod RowLemmas
pub mod SiteLemmas
pub mod PutLemmas
pub mod CountLemmas
pub mod MentionLemmas
pub mod NamedLemmas
