pub mod Counts
pub mod Determined
pub mod Parts
pub mod Refusing
