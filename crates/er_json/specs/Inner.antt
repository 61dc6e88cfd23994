-- Which lines of a report a list of the document has.
pub mod Sections
