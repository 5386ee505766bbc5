-- Books moved to another format, and back.
pub mod PassLaws
pub mod MoveLaws
pub mod RoundTrips
