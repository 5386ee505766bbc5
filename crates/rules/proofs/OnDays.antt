-- Differences, additions and the order.
pub mod OrderLaws
pub mod CountLaws
pub mod DayLaws
pub mod AddLaws
pub mod DifferenceLaws
