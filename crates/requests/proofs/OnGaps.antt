-- The records of a kind, their earliest and latest date, and their steps.
pub mod StepLaws
pub mod RecordLaws
pub mod EndLaws
pub mod ExactLaws
pub mod FirstLaws
pub mod PlaceLaws
