pub mod Answers
pub mod Leaves
