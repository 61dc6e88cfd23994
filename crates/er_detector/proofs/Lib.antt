pub mod Listing
pub mod OpenedLemmas
pub mod Reusing
