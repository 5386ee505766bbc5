pub mod Word
pub mod Parse
