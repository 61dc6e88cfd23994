pub mod SeatChecks
pub mod JournalOrder
pub mod EntryMatches
pub mod Checks
pub mod ReplyMatches
pub mod CallOrder
