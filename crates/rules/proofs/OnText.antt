-- What a text's leading number decides, and a date's own text read back.
pub mod LeadingLaws
pub mod PaddedLaws
pub mod TextBack
