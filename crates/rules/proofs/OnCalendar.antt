-- Day of year, month and day.
pub mod CalendarLaws
