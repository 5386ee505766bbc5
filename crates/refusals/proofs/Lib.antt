pub mod Determined
pub mod RefusalLaws
