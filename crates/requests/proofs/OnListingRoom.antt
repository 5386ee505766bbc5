-- How long a listing can be, and what is answered in a lent buffer.
pub mod RoomLaws
pub mod LentLaws
