pub mod Pieces
pub mod Views
