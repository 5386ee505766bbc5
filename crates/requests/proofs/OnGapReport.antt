-- How long a report may be, and when it is refused.
pub mod RoomLaws
pub mod RefusalLaws
