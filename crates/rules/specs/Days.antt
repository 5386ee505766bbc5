-- Document 01, "Day numbers", and the order of "Fields and kinds". Assumes nothing.
use Rattle.std.specs.Prelude.{ℕ, Bool, true, false, cond, ltb, ℤ, pos, nat_abs, ◌+ℤ◌, ◌-ℤ◌, ◌*ℤ◌}
use Rattle.std.specs.Int.Signed.{lt_z, quot_z, rem_z}
use Rattle.rules.specs.Words.{minus, within_z, fits32}
use Rattle.rules.specs.Refusals.{Answer, Gives, demand, not_of_kind, sum_overflows, out_of_range}
use Rattle.rules.specs.Calendar.{day_of_year}
use Rattle.rules.specs.Kinds.{Kind, kR, kD, kH, kU, kE, kV, Fields, with_hour, packed}
use Rattle.rules.specs.Numbers.{on_day}

-- "365 × year + day of year for years from 0, and 365 × year - day of year before"
abbrev pub day_number_at : ℤ → ℕ → ℤ
day_number_at year doy = cond (lt_z year (pos 0)) (pos 365 *ℤ year -ℤ pos doy) (pos 365 *ℤ year +ℤ pos doy)

unfoldable pub day_number : Fields → ℤ
day_number f = day_number_at f.year (day_of_year f.month f.day)

-- D, V and E count days
abbrev pub counts_days : Kind → Bool
counts_days kR = false
counts_days kD = true
counts_days kH = false
counts_days kU = false
counts_days kE = true
counts_days kV = true

-- "The difference of two dates is the second's number less the first's"; "E and V differences ignore hours"
unfoldable pub difference : Kind → Fields → Fields → Answer ℤ
difference k f g = demand (counts_days k) not_of_kind (Gives (day_number g -ℤ day_number f))

-- the date of a day number, with this hour: "year n / 365, day of year |n mod 365|, both truncating"
unfoldable pub day_fields : ℤ → ℕ → Fields
day_fields n h = on_day (quot_z n (pos 365)) (nat_abs (rem_z n (pos 365))) h

-- "A sum n outside 32 bits is refusal 5; outside -11,960,684 to 11,960,319 refusal 6; otherwise there is a date"
unfoldable pub summed : ℤ → ℕ → Answer Fields
summed n h =
    demand (fits32 n) sum_overflows (demand (within_z (minus 11960684) (pos 11960319) n) out_of_range (Gives (day_fields n h)))

-- the same over the range, from -low to high, and over the date of a number: for days, and by #111 of document 02 for hours
abbrev pub date_within : ℕ → ℕ → (ℤ → Fields) → ℤ → Answer Fields
date_within low high date n =
    demand (fits32 n) sum_overflows (demand (within_z (minus low) (pos high) n) out_of_range (Gives (date n)))

-- "V adds likewise and keeps its hour; E's result has hour 0"; D has no other
abbrev pub summed_hour : Kind → ℕ → ℕ
summed_hour kR h = 0
summed_hour kD h = 0
summed_hour kH h = 0
summed_hour kU h = 0
summed_hour kE h = 0
summed_hour kV h = h

unfoldable pub add_days : Kind → Fields → ℤ → Answer Fields
add_days k f days = demand (counts_days k) not_of_kind (summed (day_number f +ℤ days) (summed_hour k f.hour))

-- "E's start of day is the same date with hour 0"; no other kind has one
abbrev pub has_start : Kind → Bool
has_start kR = false
has_start kD = false
has_start kH = false
has_start kU = false
has_start kE = true
has_start kV = false

unfoldable pub start_of_day : Kind → Fields → Answer Fields
start_of_day k f = demand (has_start k) not_of_kind (Gives (with_hour f 0))

-- ---- "Order: year, then packed word"

pub data Order : Type 0 where
  Before : Order
  Same : Order
  After : Order

-- by two integers, or two naturals, and where they are equal by what follows
abbrev pub by_z : ℤ → ℤ → Order → Order
by_z a b next = cond (lt_z a b) Before (cond (lt_z b a) After next)

abbrev pub by_n : ℕ → ℕ → Order → Order
by_n a b next = cond (ltb a b) Before (cond (ltb b a) After next)

unfoldable pub order : Fields → Fields → Order
order f g = by_z f.year g.year (by_n (packed f) (packed g) Same)
