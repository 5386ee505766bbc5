pub mod Pastes
pub mod Parts
