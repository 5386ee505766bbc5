-- Entries kept by a test of their key, in order, declared and removed.
pub mod KeepLaws
pub mod EachLaws
pub mod OrderLaws
pub mod ChangeLaws
pub mod PartLaws
