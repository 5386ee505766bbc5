pub mod Walk
pub mod Recast
