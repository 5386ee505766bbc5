-- Document 01, "Fields and kinds": the six kinds, their fields, the packed word, the least and the greatest date. Assumes nothing.
use Rattle.std.specs.Prelude.{ℕ, ◌+◌, ◌*◌, ◌/◌, ◌%◌, Bool, true, false, cond, ◌&&◌, ◌||◌, leb, eqb, ℤ, pos}
use Rattle.rules.specs.Words.{within, minus, fits16}
use Rattle.rules.specs.Refusals.{Answer, Gives, Refused, ◌then◌, demand, not_of_kind}
use Rattle.rules.specs.Calendar.{month_length}

-- ---- the kinds

-- R raw, D plain, H hourly, U uniform, E EU5, V Victoria 3
pub data Kind : Type 0 where
  kR : Kind
  kD : Kind
  kH : Kind
  kU : Kind
  kE : Kind
  kV : Kind

-- the kind that has this code under `codes`, or the refusal n
abbrev pub kind_by : (Kind → ℕ) → ℕ → ℕ → Answer Kind
kind_by codes n code =
    cond (eqb code (codes kR)) (Gives kR) (cond (eqb code (codes kD)) (Gives kD) (cond (eqb code (codes kH)) (Gives kH)
    (cond (eqb code (codes kU)) (Gives kU) (cond (eqb code (codes kE)) (Gives kE) (cond (eqb code (codes kV)) (Gives kV) (Refused n))))))

-- ---- fields

pub record Fields : Type 0 where
  pub year : ℤ
  pub month : ℕ
  pub day : ℕ
  pub hour : ℕ

-- the same date with another hour
abbrev pub with_hour : Fields → ℕ → Fields
with_hour f h = record { year = f.year; month = f.month; day = f.day; hour = h }

-- the greatest day of a month: R's 31; "U: day at most 30 in every month"; elsewhere the "day fits the month"
abbrev pub days_in : Kind → ℕ → ℕ
days_in kR m = 31
days_in kD m = month_length m
days_in kH m = month_length m
days_in kU m = 30
days_in kE m = month_length m
days_in kV m = month_length m

-- the hours of a kind
abbrev pub hour_fits : Kind → ℕ → Bool
hour_fits kR h = within 0 24 h
hour_fits kD h = eqb h 0
hour_fits kH h = within 1 24 h
hour_fits kU h = eqb h 0
hour_fits kE h = within 0 22 h
hour_fits kV h = eqb h 0 || eqb h 6 || eqb h 12 || eqb h 18

-- whether month, day and hour are those of a date of the kind
unfoldable pub fits_kind : Kind → ℕ → ℕ → ℕ → Bool
fits_kind k month day hour = within 1 12 month && within 1 (days_in k month) day && hour_fits k hour

-- whether these are the fields of a date of the kind: "year -32768 to 32767"
unfoldable pub of_kind : Kind → Fields → Bool
of_kind k f = fits16 f.year && fits_kind k f.month f.day f.hour

-- ---- dates

-- a date of the kind with these fields, or the refusal n
unfoldable pub made : Kind → ℕ → Fields → Answer Fields
made k n f = demand (of_kind k f) n (Gives f)

-- "Field sets of R, H and V carry an hour; those of D, U and E carry none, and their hour is 0"
abbrev pub field_set_hour : Kind → ℕ → ℕ
field_set_hour kR h = h
field_set_hour kD h = 0
field_set_hour kH h = h
field_set_hour kU h = 0
field_set_hour kE h = 0
field_set_hour kV h = h

-- a date from a field set; where the set carries no hour, the one given is no part of it
unfoldable pub from_fields : Kind → Fields → Answer Fields
from_fields k f = made k not_of_kind (with_hour f (field_set_hour k f.hour))

-- E: "23 becomes 22", where a text or a number is read
abbrev pub settled_hour : Kind → ℕ → ℕ
settled_hour kR h = h
settled_hour kD h = h
settled_hour kH h = h
settled_hour kU h = h
settled_hour kE h = cond (eqb h 23) 22 h
settled_hour kV h = h

-- a date of the kind with the fields that a text or a number has, or the refusal n
unfoldable pub settled : Kind → ℕ → Fields → Answer Fields
settled k n f = made k n (with_hour f (settled_hour k f.hour))

-- "E's in-game hour is hour / 2 + 8, rounded down"
abbrev pub in_game_hour : ℕ → ℕ
in_game_hour h = h / 2 + 8

-- ---- the packed word

-- "Packed beside the year: month × 4096 + day × 128 + hour × 4"
unfoldable pub packed : Fields → ℕ
packed f = f.month * 4096 + f.day * 128 + f.hour * 4

-- #106 of document 02: "Put it into the packed word's two empty bits". The word of fields with a mark, and the word's mark back
abbrev pub word_of : ℕ → Fields → ℕ
word_of mark f = packed f + mark

abbrev pub mark_of : ℕ → ℕ
mark_of word = word % 4

-- "0 declared, 1 guessed, 2 and 3 not allowed"
abbrev pub no_mark : ℕ
no_mark = 0

abbrev pub guessed_mark : ℕ
guessed_mark = 1

abbrev pub mark_allowed : ℕ → Bool
mark_allowed mark = eqb mark no_mark || eqb mark guessed_mark

-- a date as it is stored: its year, and its word beside it
pub record Stored : Type 0 where
  pub year : ℤ
  pub word : ℕ

-- a date of these fields, with a mark; and without one
abbrev pub stored_with : ℕ → Fields → Stored
stored_with mark f = record { year = f.year; word = word_of mark f }

abbrev pub stored : Fields → Stored
stored f = stored_with no_mark f

-- what is handed out of an answer: the date, with this mark
abbrev pub store_with : ℕ → Answer Fields → Answer Stored
store_with mark a = a then λ f. Gives (stored_with mark f)

-- "Guess readers set 1, all others 0"
abbrev pub store_guess : Answer Fields → Answer Stored
store_guess a = store_with guessed_mark a

abbrev pub store : Answer Fields → Answer Stored
store a = store_with no_mark a

-- "an addition and E's start of day keep the starting date's mark"
abbrev pub store_like : Stored → Answer Fields → Answer Stored
store_like start a = store_with (mark_of start.word) a

-- the fields of a stored date, whatever its mark
abbrev pub unpacked : Stored → Fields
unpacked d = record { year = d.year; month = d.word / 4096; day = d.word / 128 % 32; hour = d.word / 4 % 32 }

-- ---- a date handed in

-- the fields of the date, if it is one of the kind and its mark is allowed, or 4: "4 also for marks 2 and 3"
unfoldable pub handed : Kind → Stored → Answer Fields
handed k d = demand (mark_allowed (mark_of d.word)) not_of_kind (made k not_of_kind (unpacked d))

-- what is answered of a date handed in, or 4; and of two, the first before the second
abbrev pub of_date : {A : Type 0} → Kind → Stored → (Fields → Answer A) → Answer A
of_date k d next = handed k d then next

abbrev pub of_dates : {A : Type 0} → Kind → Stored → Stored → (Fields → Fields → Answer A) → Answer A
of_dates k d e next = of_date k d (λ f. of_date k e (next f))

-- whether a date was guessed, by its mark
abbrev pub is_guessed : Stored → Bool
is_guessed d = eqb (mark_of d.word) guessed_mark

-- a date handed in, handed out again without its mark
abbrev pub without_mark : Kind → Stored → Answer Stored
without_mark k d = store (handed k d)

-- ---- least and greatest

-- "Each kind owns its least and greatest date"
abbrev pub least_hour : Kind → ℕ
least_hour kR = 0
least_hour kD = 0
least_hour kH = 1
least_hour kU = 0
least_hour kE = 0
least_hour kV = 0

abbrev pub greatest_hour : Kind → ℕ
greatest_hour kR = 24
greatest_hour kD = 0
greatest_hour kH = 24
greatest_hour kU = 0
greatest_hour kE = 22
greatest_hour kV = 18

unfoldable pub least : Kind → Fields
least k = record { year = minus 32768; month = 1; day = 1; hour = least_hour k }

unfoldable pub greatest : Kind → Fields
greatest k = record { year = pos 32767; month = 12; day = days_in k 12; hour = greatest_hour k }
