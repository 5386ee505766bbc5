pub mod HourLaws
pub mod Laws
pub mod SetLaws
pub mod Determined
