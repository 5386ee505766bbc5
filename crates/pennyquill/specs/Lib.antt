pub mod Boundary
pub mod Tables
