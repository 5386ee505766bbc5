-- The day of year on which a month starts, or that there is no such month: a date with it is of no kind. Assumes nothing.
use Rattle.std.specs.Prelude.{ℕ, Option, Some, None}
use Rattle.rules.specs.Words.{within}
use Rattle.rules.specs.Refusals.{Answer, Gives, Refused, demand, not_of_kind}
use Rattle.rules.specs.Calendar.{first_day}

unfoldable pub first_day_of : ℕ → Answer ℕ
first_day_of m = demand (within 1 12 m) not_of_kind (Gives (first_day m))

abbrev pub first_day_as : Option ℕ → Answer ℕ
first_day_as (Some d) = Gives d
first_day_as None = Refused not_of_kind
