pub mod PutLemmas
pub mod RowLemmas
pub mod ResultLemmas
pub mod SuppressedLemmas
