-- Which numbers are read, and what D and H write.
pub mod NumberLaws
pub mod NumberBack
