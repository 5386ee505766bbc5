pub mod Number
pub mod Views
