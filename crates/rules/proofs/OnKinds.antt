-- What a date of a kind has, its word and its mark, a kind by its code or letter.
pub mod KindLaws
pub mod PackLaws
pub mod MarkLaws
pub mod CodeLaws
