-- Hours and blocks of hours between two dates, and added.
pub mod BlockLaws
pub mod NumberLaws
pub mod HourLaws
