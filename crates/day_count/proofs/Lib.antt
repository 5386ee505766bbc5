pub mod Laws
pub mod SumLaws
pub mod Determined
