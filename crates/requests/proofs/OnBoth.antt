-- Calls that take both versions.
pub mod BothLaws
