pub mod Versions
pub mod WalkLaws
pub mod RecastLaws
pub mod MovesBy
pub mod Determined
