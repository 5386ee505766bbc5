-- The ISO reader gives a date exactly where the text is that date's; and the exchange text tells the date as well.
pub mod NamedLaws
pub mod IsoLaws
pub mod AlikeLaws
