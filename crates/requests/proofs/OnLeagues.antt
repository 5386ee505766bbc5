-- A table that two leagues share.
pub mod OwnLaws
pub mod SharedLaws
pub mod AfterLaws
pub mod ApartLaws
pub mod RunLaws
pub mod LookupLaws
pub mod MoveLaws
