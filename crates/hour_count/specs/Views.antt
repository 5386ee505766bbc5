-- The code's types as those of `rules`. Assumes nothing.
use Rattle.std.specs.Prelude.{◌-◌, ◌≤◌, ◌<◌, ℤ, Option, Some, None}
use Rattle.rules.specs.Refusals.{Answer, Gives, Refused, not_of_kind}
use Rattle.rules.specs.Kinds.{Kind, least_hour}
use Rattle.kinds.specs.declared.ExpandedRawDate.{ExpandedRawDate}
use Rattle.day_count.specs.Views.{OnCalendar}

abbrev pub counted_as : Option ℤ → Answer ℤ
counted_as (Some n) = Gives n
counted_as None = Refused not_of_kind

-- a day of its month at an hour of the kind's day: every date of a kind that counts hours is on one
abbrev pub OnHour : Kind → ExpandedRawDate → Type 0
OnHour k e = OnCalendar e × (least_hour k ≤ e.hour) × (e.hour - least_hour k < 24)
