pub mod LineTexts
pub mod Requests
pub mod Determined
pub mod PassLaws
