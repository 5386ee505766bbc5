pub mod NumeralLaws
pub mod LineLaws
pub mod Answers
pub mod Determined
