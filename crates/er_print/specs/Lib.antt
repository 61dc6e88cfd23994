pub mod Inner
pub mod Pieces
pub mod Printed
pub mod Styles
pub mod Values
pub mod Written
