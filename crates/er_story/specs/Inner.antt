-- What a pass keeps of a word inside.
pub mod Past
