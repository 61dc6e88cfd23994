pub mod NameLemmas
pub mod PlaceLemmas
pub mod TextLemmas
pub mod AskLemmas
pub mod FrontLemmas
pub mod NotingLemmas
