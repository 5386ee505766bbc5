pub mod Eight
pub mod FastLaws
pub mod FastTexts
pub mod Determined
