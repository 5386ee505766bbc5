pub mod Numerals
pub mod Views
