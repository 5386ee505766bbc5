-- Numbers in bytes and back; texts of the same bytes.
pub mod ByteLaws
pub mod SameLaws
