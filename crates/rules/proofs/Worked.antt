-- Worked cases by computation.
pub mod Cases
pub mod Pairs
pub mod Bounds
pub mod Padded
pub mod Texts
pub mod Exchanges
pub mod Marks
pub mod Lines
