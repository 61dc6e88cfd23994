pub mod Document
pub mod Inner
pub mod Places
pub mod Sarif
pub mod Uris
