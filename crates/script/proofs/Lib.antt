pub mod Prepared
pub mod Told
pub mod Turns
pub mod Weighed
