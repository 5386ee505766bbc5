-- Frames cut into pieces, books, appends, the record of a date.
pub mod PieceLaws
pub mod FrameLaws
pub mod BookLaws
pub mod AppendAnswers
pub mod AppendLaws
pub mod EntryLaws
