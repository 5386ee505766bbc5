pub mod Counts
pub mod Calls
pub mod Changes
pub mod Moved
