-- What keeps the books in order inside.
pub mod Packing
pub mod Places
