pub mod Accesses
pub mod Briefs
pub mod KeptCalls
pub mod KeptEntries
pub mod Replies
pub mod Tickets
