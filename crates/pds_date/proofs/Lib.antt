pub mod Shapes
pub mod Determined
