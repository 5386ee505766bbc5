pub mod Walk
pub mod Views
pub mod Figures
pub mod Answers
