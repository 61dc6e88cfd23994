pub mod PieceLemmas
pub mod ChunkLemmas
pub mod NamedLemmas
pub mod AddedLemmas
