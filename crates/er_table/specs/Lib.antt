pub mod Known
pub mod LocksetTable
pub mod Numbers
pub mod Owned
pub mod SetRef
pub mod Sets
