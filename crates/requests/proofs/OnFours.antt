-- Many answers in one call.
pub mod FourLaws
