-- Version 2.
pub mod FieldEntryLaws
