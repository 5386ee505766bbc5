-- Worked cases, by computation.
pub mod Tables
pub mod IsoTexts
pub mod Versions
pub mod Leagues
pub mod GapReports
pub mod ListingRooms
pub mod HourCounts
