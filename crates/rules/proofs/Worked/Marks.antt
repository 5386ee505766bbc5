-- #106: marks of dates handed in, of dates handed out, and in a version 1 book. The word of 11.11 without an hour is 46464, with hour 22
-- it is 46552; their marks are added. Assumes nothing.
use Prim.Native.Nat.{ℕ}
use mathlib.Core.Path.{◌≡◌, refl}
use mathlib.Core.Bool.{Bool, true, false}
use mathlib.Core.List.{List, [], ◌∷◌}
use lib.IntN.{pos, negsuc}
use lib.ListN.{replicate}
use Rattle.rules.specs.Words.{big_endian, big_bytes}
use Rattle.rules.specs.Refusals.{Answer, Gives, Refused, RefusedAt}
use Rattle.rules.specs.Calendar.{lengths, month_length, sum_first, first_day, day_of_year, walk, month_day}
use Rattle.rules.specs.Kinds.{kR, kD, kH, kU, kE, kV, Fields, Stored, fits_kind, of_kind, made, settled, packed, stored, store_guess, store, store_like, handed, of_date, of_dates, is_guessed, without_mark, least, greatest}
use Rattle.rules.specs.Numbers.{number_fields, decoded, read_number, guess_number}
use Rattle.rules.specs.Days.{day_number, day_fields, summed, add_days, start_of_day, Order, Same, Before, order}
use Rattle.rules.specs.Book.{length_said, pieces, framed, first_bad, all_pass, records, check, append_answer, appended, append_buffer, new_answer, new_buffer, kind_of_code, year_of_twos, entry_bytes, entry_from, version1, entry_for}
use Rattle.rules.proofs.Worked.Cases.{Case, ◌is◌, answers, literals, date, bits}

-- 1444.11.11 with this word
abbrev on1444 : ℕ → Stored
on1444 word = bits (pos 1444) word

-- ---- handed in: "0 declared, 1 guessed, 2 and 3 not allowed"; a kind that has no guess may be handed a mark too

abbrev pub fields : List (Case (Answer Fields))
fields =
    (handed kD (on1444 46464) is date (pos 1444) 11 11 0)
    ∷ (handed kD (on1444 46465) is date (pos 1444) 11 11 0)
    ∷ (handed kD (on1444 46466) is Refused 4)
    ∷ (handed kD (on1444 46467) is Refused 4)
    ∷ (handed kD (on1444 46469) is Refused 4)
    ∷ (handed kE (on1444 46553) is date (pos 1444) 11 11 22)
    ∷ (handed kE (on1444 46554) is Refused 4)
    ∷ (handed kE (on1444 46555) is Refused 4)
    ∷ (handed kE (on1444 46557) is Refused 4)
    ∷ (handed kR (on1444 46553) is date (pos 1444) 11 11 22)
    ∷ (handed kH (on1444 46553) is date (pos 1444) 11 11 22)
    ∷ (handed kU (on1444 46465) is date (pos 1444) 11 11 0)
    ∷ (handed kV (on1444 46465) is date (pos 1444) 11 11 0)
    ∷ (handed kV (on1444 46467) is Refused 4)
    ∷ []

pub fields-hold : answers fields ≡ literals fields
unfolding lengths month_length fits_kind of_kind made handed
fields-hold = refl

-- ---- handed out: "Guess readers set 1, all others 0; an addition and E's start of day keep the starting date's mark"

abbrev pub dates : List (Case (Answer Stored))
dates =
    (store_guess (guess_number kD (pos 56456976)) is Gives (on1444 46465))
    ∷ (store (read_number kD (pos 56456976)) is Gives (on1444 46464))
    ∷ (store_guess (guess_number kD (pos 56456977)) is Refused 3)
    ∷ (store_like (on1444 46464) (of_date kD (on1444 46464) (λ f. add_days kD f (pos 20))) is Gives (on1444 49280))
    ∷ (store_like (on1444 46465) (of_date kD (on1444 46465) (λ f. add_days kD f (pos 20))) is Gives (on1444 49281))
    ∷ (store_like (on1444 46466) (of_date kD (on1444 46466) (λ f. add_days kD f (pos 20))) is Refused 4)
    ∷ (store_like (on1444 46465) (of_date kD (on1444 46465) (λ f. add_days kD f (pos 2147483647))) is Refused 5)
    ∷ (store_like (on1444 46465) (of_date kD (on1444 46465) (λ f. add_days kD f (pos 11960319))) is Refused 6)
    ∷ (store_like (on1444 46553) (of_date kE (on1444 46553) (λ f. start_of_day kE f)) is Gives (on1444 46465))
    ∷ (store_like (on1444 46552) (of_date kE (on1444 46552) (λ f. start_of_day kE f)) is Gives (on1444 46464))
    ∷ (store_like (on1444 46554) (of_date kE (on1444 46554) (λ f. start_of_day kE f)) is Refused 4)
    ∷ (without_mark kE (on1444 46553) is Gives (on1444 46552))
    ∷ (without_mark kE (on1444 46552) is Gives (on1444 46552))
    ∷ (without_mark kE (on1444 46554) is Refused 4)
    ∷ (without_mark kD (on1444 46553) is Refused 4)
    ∷ (Gives (stored (least kE)) is Gives (bits (negsuc 32767) 4224))
    ∷ (Gives (stored (greatest kE)) is Gives (bits (pos 32767) 53208))
    ∷ []

pub dates-hold : answers dates ≡ literals dates
unfolding lengths month_length sum_first first_day day_of_year walk month_day fits_kind of_kind made settled packed handed number_fields decoded read_number guess_number
    day_number day_fields summed add_days start_of_day least greatest
dates-hold = refl

abbrev pub marks : List (Case Bool)
marks =
    (is_guessed (on1444 46464) is false)
    ∷ (is_guessed (on1444 46465) is true)
    ∷ (is_guessed (on1444 46466) is false)
    ∷ (is_guessed (on1444 46467) is false)
    ∷ []

pub marks-hold : answers marks ≡ literals marks
marks-hold = refl

-- ---- "Order, equality and all texts disregard it"

abbrev ordered : ℕ → ℕ → Answer Order
ordered v w = of_dates kE (on1444 v) (on1444 w) (λ f g. Gives (order f g))

abbrev pub orders : List (Case (Answer Order))
orders =
    (ordered 46552 46553 is Gives Same)
    ∷ (ordered 46553 46552 is Gives Same)
    ∷ (ordered 46549 46552 is Gives Before)
    ∷ (ordered 46548 46553 is Gives Before)
    ∷ (ordered 46552 46554 is Refused 4)
    ∷ []

pub orders-hold : answers orders ≡ literals orders
unfolding lengths month_length fits_kind of_kind made packed handed order
orders-hold = refl

-- ---- a version 1 book: "20 when a guessed date is appended to a version 1 book, after 12; 11 for any mark in one"

abbrev empty : ℕ → List ℕ
empty n = new_buffer version1.frame.version (replicate n 7)

-- a book of D 1444.11.11 alone whose word ends in this byte: 128 without a mark
abbrev one : ℕ → List ℕ
one low = 0 ∷ 0 ∷ 0 ∷ 6 ∷ 1 ∷ 2 ∷ 5 ∷ 164 ∷ 181 ∷ low ∷ []

abbrev append : ℕ → List ℕ → Answer ℕ
append word s = append_answer version1 (entry_for 2 (on1444 word)) s

abbrev pub counts : List (Case (Answer ℕ))
counts =
    (check version1 (one 128) is Gives 1)
    ∷ (check version1 (one 129) is RefusedAt 11 0)
    ∷ (check version1 (one 130) is RefusedAt 11 0)
    ∷ (check version1 (one 131) is RefusedAt 11 0)
    ∷ (append 46464 (empty 10) is Gives 0)
    ∷ (append 46465 (empty 10) is Refused 20)
    ∷ (append 46465 (empty 9) is Refused 12)
    ∷ (append 46465 (one 128) is Refused 12)
    ∷ (append 46465 (one 129) is RefusedAt 11 0)
    ∷ (append 46464 (one 129) is RefusedAt 11 0)
    ∷ (append 46465 (0 ∷ 0 ∷ 0 ∷ 6 ∷ 2 ∷ 2 ∷ 5 ∷ 164 ∷ 181 ∷ 129 ∷ []) is Refused 10)
    ∷ (append 46465 (replicate 4 0) is Refused 9)
    ∷ (append 46466 (replicate 4 0) is Refused 4)
    ∷ (append 46466 (empty 10) is Refused 4)
    ∷ (append 46467 (empty 10) is Refused 4)
    ∷ (append_answer version1 (entry_for 7 (on1444 46465)) (empty 10) is Refused 4)
    ∷ []

-- what is refused changes no byte
abbrev pub books : List (Case (List ℕ))
books =
    (append_buffer version1 (entry_for 2 (on1444 46464)) (empty 10) is one 128)
    ∷ (append_buffer version1 (entry_for 2 (on1444 46465)) (empty 10) is (0 ∷ 0 ∷ 0 ∷ 1 ∷ 1 ∷ 7 ∷ 7 ∷ 7 ∷ 7 ∷ 7 ∷ []))
    ∷ (append_buffer version1 (entry_for 2 (on1444 46465)) (one 129) is one 129)
    ∷ []

pub books-hold : (answers counts ≡ literals counts) × (answers books ≡ literals books)
unfolding big_endian big_bytes lengths month_length fits_kind of_kind made handed length_said pieces framed first_bad all_pass records
    check append_answer appended append_buffer new_answer new_buffer kind_of_code year_of_twos entry_bytes entry_from entry_for
books-hold = (refl, refl)
