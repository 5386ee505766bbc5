-- The laws on each file of `specs`, in a folder of that name (`OnEntries` on `Entries`); and worked cases.
pub mod OnEntries
pub mod OnLaid
pub mod OnFieldTable
pub mod OnIsoReader
pub mod OnFours
pub mod OnSecond
pub mod OnBoth
pub mod OnMoves
pub mod OnLeagues
pub mod OnGaps
pub mod OnGapReport
pub mod OnListingRoom
pub mod OnHours
pub mod Worked
