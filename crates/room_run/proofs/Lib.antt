pub mod Behind
pub mod Read
