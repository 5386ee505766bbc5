-- Document 01, "Numbers to dates and back": a number's fields, the full decoder, the guess, the way back. Assumes nothing.
use Rattle.std.specs.Prelude.{ℕ, ◌+◌, ◌-◌, ◌%◌, Bool, true, false, ◌&&◌, ◌||◌, eqb, ℤ, pos, nat_abs, ◌+ℤ◌, ◌-ℤ◌, ◌*ℤ◌}
use Rattle.std.specs.Int.Signed.{lt_z, le_z, quot_z, rem_z, non_neg}
use Rattle.rules.specs.Words.{minus, eq_z, fits16}
use Rattle.rules.specs.Refusals.{Answer, Gives, ◌then◌, demand, not_number, not_of_kind}
use Rattle.rules.specs.Calendar.{MonthDay, month_day, day_of_year}
use Rattle.rules.specs.Kinds.{Kind, kR, kD, kH, kU, kE, kV, Fields, with_hour, settled}

-- the fields of a year, a day of year and an hour
abbrev pub on_day : ℤ → ℕ → ℕ → Fields
on_day year doy h = record { year = year; month = (month_day doy).month; day = (month_day doy).day; hour = h }

-- "hour = s mod 24 and day of year = (s / 24) mod 365, division truncating", "Year = s / 8760 - 5000"
abbrev pub hour_of : ℤ → ℤ
hour_of s = rem_z s (pos 24)

abbrev pub day_of : ℤ → ℤ
day_of s = rem_z (quot_z s (pos 24)) (pos 365)

abbrev pub year_of : ℤ → ℤ
year_of s = quot_z s (pos 8760) -ℤ pos 5000

-- "a negative one refuses", and so does a year that does not fit
abbrev pub has_fields : ℤ → Bool
has_fields s = non_neg (hour_of s) && non_neg (day_of s) && fits16 (year_of s)

-- the fields of the number s, or the refusal n
unfoldable pub number_fields : ℕ → ℤ → Answer Fields
number_fields n s = demand (has_fields s) n (Gives (on_day (year_of s) (nat_abs (day_of s)) (nat_abs (hour_of s))))

-- ---- the full decoder

-- "U reads no number outside text"
abbrev pub reads_numbers : Kind → Bool
reads_numbers kR = true
reads_numbers kD = true
reads_numbers kH = true
reads_numbers kU = false
reads_numbers kE = true
reads_numbers kV = true

-- "R, V and E take the hour as it is; D sets it to 0; H adds 1"
abbrev pub decoded_hour : Kind → ℕ → ℕ
decoded_hour kR h = h
decoded_hour kD h = 0
decoded_hour kH h = h + 1
decoded_hour kU h = h
decoded_hour kE h = h
decoded_hour kV h = h

-- the date of a number's fields
unfoldable pub decoded : Kind → Fields → Answer Fields
decoded k f = settled k not_number (with_hour f (decoded_hour k f.hour))

unfoldable pub read_number : Kind → ℤ → Answer Fields
read_number k s = demand (reads_numbers k) not_of_kind (number_fields not_number s then decoded k)

-- ---- the guess

-- "R and U have no guess"
abbrev pub guesses : Kind → Bool
guesses kR = false
guesses kD = true
guesses kH = true
guesses kU = false
guesses kE = true
guesses kV = true

-- 1 January, with this hour
abbrev pub new_year : ℕ → Fields → Bool
new_year h f = eqb f.month 1 && eqb f.day 1 && eqb f.hour h

-- what the guess needs of a number's fields: H's hour after 1 is added, every other as the number has it, so that E's is
-- "tested before 23 becomes 22"
abbrev pub guessed : Kind → Fields → Bool
guessed kR f = false
guessed kD f = lt_z (minus 100) f.year && eqb f.hour 0
guessed kH f =
    le_z (pos 1800) f.year
    || (new_year 1 (with_hour f (decoded_hour kH f.hour)) && (eq_z f.year (pos 1) || eq_z f.year (minus 1)))
guessed kU f = false
guessed kE f = lt_z (minus 100) f.year && eqb (f.hour % 2) 0
guessed kV f = lt_z (pos 1700) f.year || (new_year 0 f && eq_z f.year (pos 1))

unfoldable pub guess_number : Kind → ℤ → Answer Fields
guess_number k s =
    demand (guesses k) not_of_kind (number_fields not_number s then λ f. demand (guessed k f) not_number (decoded k f))

-- ---- the way back

-- ((year + 5000) × 365 + day of year) × 24 + h, for every year and every hour: what D and H write lies on it
abbrev pub straight_at : ℤ → ℕ → ℕ → ℤ
straight_at year doy h = pos 24 *ℤ (pos 365 *ℤ (year +ℤ pos 5000) +ℤ pos doy) +ℤ pos h

unfoldable pub straight : Fields → ℕ → ℤ
straight f h = straight_at f.year (day_of_year f.month f.day) h

-- "D and H write ((year + 5000) × 365 + day of year) × 24, H plus hour - 1"; no other kind writes a number
abbrev pub writes_numbers : Kind → Bool
writes_numbers kR = false
writes_numbers kD = true
writes_numbers kH = true
writes_numbers kU = false
writes_numbers kE = false
writes_numbers kV = false

abbrev pub written_hour : Kind → ℕ → ℕ
written_hour kR h = 0
written_hour kD h = 0
written_hour kH h = h - 1
written_hour kU h = 0
written_hour kE h = 0
written_hour kV h = 0

unfoldable pub write_number : Kind → Fields → Answer ℤ
write_number k f = demand (writes_numbers k) not_of_kind (Gives (straight f (written_hour k f.hour)))
