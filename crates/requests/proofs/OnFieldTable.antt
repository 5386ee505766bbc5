-- The field table.
pub mod EntryLaws
pub mod HeldLaws
pub mod BufferLaws
pub mod AfterLaws
pub mod LookupLaws
pub mod RoomLaws
