pub mod PieceLaws
pub mod Texts
pub mod Determined
