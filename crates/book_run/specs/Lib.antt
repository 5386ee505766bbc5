pub mod Operations
pub mod Versions
pub mod Tables
