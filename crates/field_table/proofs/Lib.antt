pub mod Keys
pub mod Orders
pub mod Finds
pub mod Changes
pub mod Calls
pub mod Determined
pub mod ByKey
