-- What a line of `datelist` can print, and how much.
pub mod RefusalLaws
pub mod LineLaws
