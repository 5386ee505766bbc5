-- What laws and proofs share: one computed test for each number below a bound, the default arm of a `match`, the rest of a text.
pub mod Table
pub mod Rests
pub mod Arms
