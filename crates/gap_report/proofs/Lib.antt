pub mod WalkLaws
pub mod TallyLaws
pub mod TextLaws
pub mod SixLaws
pub mod FigureLaws
pub mod AnswerLaws
pub mod Determined
pub mod Worked
