pub mod Laws
pub mod Sizes
pub mod BookSizes
pub mod GapSizes
pub mod TableLaws
pub mod LeagueSizes
pub mod ListingSizes
