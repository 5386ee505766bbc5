pub mod Naturals
pub mod Preparing
pub mod Reader
pub mod Rooms
pub mod Running
pub mod TableAnswers
pub mod Telling
pub mod Weighing
