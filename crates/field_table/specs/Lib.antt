pub mod Views
pub mod Search
