-- What an answer can be, and that a contract over a view of it allows one result.
pub mod Determined
pub mod OutcomeLaws
