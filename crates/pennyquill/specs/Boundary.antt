-- What crosses to C: a kind and a date as numbers, and an answer as a struct, every member of it. Assumes nothing.
use Rattle.std.specs.Prelude.{ℕ, ◌/◌, ◌%◌, ℤ, pos}
use Rattle.rules.specs.Words.{minus}
use Rattle.rules.specs.Refusals.{Answer, Gives, Refused, RefusedAt, ◌then◌}
use Rattle.rules.specs.Kinds.{Kind, Fields, Stored, store, of_date, of_dates}
use Rattle.rules.specs.Days.{Order, Before, Same, After}
use Rattle.rules.specs.Book.{kind_code, kind_of_code, year_of_twos}
use Rattle.requests.specs.Second.{FieldEntry}
use Rattle.codes.specs.Views.{date_number}
use Rattle.pennyquill.specs.declared.PqAnswer.{PqAnswer}
use Rattle.pennyquill.specs.declared.PqNumber.{PqNumber}
use Rattle.pennyquill.specs.declared.PqRecord.{PqRecord}

-- ---- into the library

-- a date from its number; `date_number` is the way there
abbrev pub date_in : ℕ → Stored
date_in date = record { year = year_of_twos (date / 65536); word = date % 65536 }

-- what is answered of a kind by its code, or 4
abbrev pub of_kind_given : {A : Type 0} → ℕ → (Kind → Answer A) → Answer A
of_kind_given kind next = kind_of_code kind then next

-- what is answered of a date of such a kind, or 4
abbrev pub of_date_given : {A : Type 0} → ℕ → ℕ → (Kind → Fields → Answer A) → Answer A
of_date_given kind date next = of_kind_given kind (λ k. of_date k (date_in date) (next k))

-- and of two dates of it
abbrev pub of_dates_given : {A : Type 0} → ℕ → ℕ → ℕ → (Kind → Fields → Fields → Answer A) → Answer A
of_dates_given kind first second next = of_kind_given kind (λ k. of_dates k (date_in first) (date_in second) (next k))

-- ---- out of it

-- "refusal 0 means that value holds the answer; at 11 value is the place", and at 21; at every other refusal it is 0, so that the struct is
-- fixed
abbrev pub crossed : Answer ℕ → PqAnswer
crossed (Gives value) = record { refusal = 0; value = value }
crossed (Refused n) = record { refusal = n; value = 0 }
crossed (RefusedAt n place) = record { refusal = n; value = place }

-- a date, as it is stored and by its fields
abbrev pub bits_crossed : Answer Stored → PqAnswer
bits_crossed a = crossed (a then λ d. Gives (date_number d))

abbrev pub date_crossed : Answer Fields → PqAnswer
date_crossed a = bits_crossed (store a)

-- a signed number; no refusal of those that answer one has a place
abbrev pub number_crossed : Answer ℤ → PqNumber
number_crossed (Gives value) = record { refusal = 0; value = value }
number_crossed (Refused n) = record { refusal = n; value = pos 0 }
number_crossed (RefusedAt n place) = record { refusal = n; value = pos place }

-- "-1, 0, 1"
abbrev pub order_number : Order → ℤ
order_number Before = minus 1
order_number Same = pos 0
order_number After = pos 1

abbrev pub order_crossed : Answer Order → PqNumber
order_crossed a = number_crossed (a then λ o. Gives (order_number o))

-- "refusal, kind, value (the date; at 11 the place)" and field, which #107 fills: 0 for none, and in version 1
abbrev pub record_crossed : Answer FieldEntry → PqRecord
record_crossed (Gives e) = record { refusal = 0; kind = kind_code e.kind; value = date_number e.date; field = e.field }
record_crossed (Refused n) = record { refusal = n; kind = 0; value = 0; field = 0 }
record_crossed (RefusedAt n place) = record { refusal = n; kind = 0; value = place; field = 0 }

-- ---- for the code's casts: the number that an answer carries, and the place that a refusal does

abbrev pub number_of : Answer ℕ → ℕ
number_of (Gives n) = n
number_of (Refused n) = 0
number_of (RefusedAt n place) = place

abbrev pub place_of : {A : Type 0} → Answer A → ℕ
place_of (Gives a) = 0
place_of (Refused n) = 0
place_of (RefusedAt n place) = place
