-- Worked cases of #108, each list one theorem by computation: the request's own example in both versions, no record and one of each kind,
-- which step is the longest and where it stands, both signs of the sum, every refusal, and each pair of neighbours in their order: 9, 10,
-- 9's last case, 11 and 7. Assumes nothing.
use Prim.Native.Nat.{ℕ}
use Prim.Native.String.{String}
use mathlib.Core.Path.{◌≡◌, refl}
use mathlib.Core.List.{List, [], ◌∷◌, ◌++◌}
use lib.ListN.{replicate}
use Rattle.rules.specs.Words.{bytes, big_endian}
use Rattle.rules.specs.Refusals.{Answer, Gives, Refused, RefusedAt}
use Rattle.rules.specs.Calendar.{lengths, month_length, sum_first, first_day, day_of_year}
use Rattle.rules.specs.Kinds.{fits_kind, of_kind, made, packed, handed}
use Rattle.rules.specs.Days.{day_number, order}
use Rattle.rules.specs.Spelling.{decimal_in, decimal, filled, dotted_hour, dotted, put_answer, put_buffer}
use Rattle.rules.specs.Book.{length_said, pieces, framed, first_bad, all_pass, records, kind_of_code, year_of_twos, entry_from}
use Rattle.rules.specs.Listing.{joined}
use Rattle.rules.proofs.Worked.Cases.{Case, ◌is◌, answers, literals}
use Rattle.rules.proofs.Worked.Lines.{◌line◌}
use Rattle.requests.specs.Second.{field_entry_of}
use Rattle.requests.specs.Both.{format_by}
use Rattle.requests.specs.Gaps.{placed_from, earlier, later, earliest, latest, longer, longest, steps_from}
use Rattle.requests.specs.GapReport.{kind_text, kind_line, report_text, report, printed}

-- ---- records of version 1: kind, year, packed word

-- R 1444.2.31.24 and R -5.1.1
abbrev raw : List ℕ
raw = 1 ∷ 5 ∷ 164 ∷ 47 ∷ 224 ∷ []

abbrev raw_before : List ℕ
raw_before = 1 ∷ 255 ∷ 251 ∷ 16 ∷ 128 ∷ []

-- D 1444.11.1, D 1444.11.11 and D 1444.11.12
abbrev day1 : List ℕ
day1 = 2 ∷ 5 ∷ 164 ∷ 176 ∷ 128 ∷ []

abbrev day11 : List ℕ
day11 = 2 ∷ 5 ∷ 164 ∷ 181 ∷ 128 ∷ []

abbrev day12 : List ℕ
day12 = 2 ∷ 5 ∷ 164 ∷ 182 ∷ 0 ∷ []

-- about year 0: D -1.1.1, D -1.12.31 and D 0.1.1
abbrev minus_first : List ℕ
minus_first = 2 ∷ 255 ∷ 255 ∷ 16 ∷ 128 ∷ []

abbrev minus_last : List ℕ
minus_last = 2 ∷ 255 ∷ 255 ∷ 207 ∷ 128 ∷ []

abbrev zero_first : List ℕ
zero_first = 2 ∷ 0 ∷ 0 ∷ 16 ∷ 128 ∷ []

-- the least day number, the greatest: D -32768.12.31 and D 32767.12.31
abbrev lowest : List ℕ
lowest = 2 ∷ 128 ∷ 0 ∷ 207 ∷ 128 ∷ []

abbrev highest : List ℕ
highest = 2 ∷ 127 ∷ 255 ∷ 207 ∷ 128 ∷ []

-- H 1936.1.1.24 and H 1936.1.1.1; U 1444.2.30
abbrev hour24 : List ℕ
hour24 = 3 ∷ 7 ∷ 144 ∷ 16 ∷ 224 ∷ []

abbrev hour1 : List ℕ
hour1 = 3 ∷ 7 ∷ 144 ∷ 16 ∷ 132 ∷ []

abbrev uniform : List ℕ
uniform = 4 ∷ 5 ∷ 164 ∷ 47 ∷ 0 ∷ []

-- E 1444.11.11.3, .22 and with hour 0
abbrev europa3 : List ℕ
europa3 = 5 ∷ 5 ∷ 164 ∷ 181 ∷ 140 ∷ []

abbrev europa22 : List ℕ
europa22 = 5 ∷ 5 ∷ 164 ∷ 181 ∷ 216 ∷ []

abbrev europa0 : List ℕ
europa0 = 5 ∷ 5 ∷ 164 ∷ 181 ∷ 128 ∷ []

-- V 1836.2.3.18, V 1836.2.3.6 and V 1836.2.4
abbrev victoria18 : List ℕ
victoria18 = 6 ∷ 7 ∷ 44 ∷ 33 ∷ 200 ∷ []

abbrev victoria6 : List ℕ
victoria6 = 6 ∷ 7 ∷ 44 ∷ 33 ∷ 152 ∷ []

abbrev victoria_next : List ℕ
victoria_next = 6 ∷ 7 ∷ 44 ∷ 34 ∷ 0 ∷ []

-- of no kind, and one with a mark
abbrev bad : List ℕ
bad = 7 ∷ 5 ∷ 164 ∷ 181 ∷ 128 ∷ []

abbrev marked : List ℕ
marked = 2 ∷ 5 ∷ 164 ∷ 181 ∷ 129 ∷ []

-- a book whose length says so many bytes, of that version
abbrev book : ℕ → ℕ → List ℕ → List ℕ
book said version rs = 0 ∷ 0 ∷ 0 ∷ said ∷ version ∷ rs

-- ---- reports

-- the six lines, each ending in byte 10; and of a book that has no other record than D's
abbrev six : String → String → String → String → String → String → Answer (List ℕ)
six r d h u e v = Gives (bytes r line bytes d line bytes h line bytes u line bytes e line bytes v line [])

abbrev days : String → Answer (List ℕ)
days d = six "R 0" d "H 0" "U 0" "E 0" "V 0"

abbrev reports : List (Case (Answer (List ℕ)))
reports =
    -- the request's example; and in version 2, with field numbers and marks, which are not seen
    (report (book 31 1 (victoria6 ++ day11 ++ uniform ++ minus_first ++ day1 ++ europa3))
    is six "R 0" "D 3 -1.1.1 1444.11.11 527739 1 -10" "H 0" "U 1 1444.02.30 1444.02.30" "E 1 1444.11.11.3 1444.11.11.3 0 5 0"
    "V 1 1836.2.3.6 1836.2.3.6 0 0 0")
    ∷ (report (book 43 2 (6 ∷ 1 ∷ 244 ∷ 7 ∷ 44 ∷ 33 ∷ 153 ∷ 2 ∷ 0 ∷ 0 ∷ 5 ∷ 164 ∷ 181 ∷ 129 ∷ 4 ∷ 255 ∷ 255 ∷ 5 ∷ 164 ∷ 47 ∷ 0
    ∷ 2 ∷ 0 ∷ 1 ∷ 255 ∷ 255 ∷ 16 ∷ 128 ∷ 2 ∷ 0 ∷ 0 ∷ 5 ∷ 164 ∷ 176 ∷ 129 ∷ 5 ∷ 0 ∷ 7 ∷ 5 ∷ 164 ∷ 181 ∷ 141 ∷ []))
    is six "R 0" "D 3 -1.1.1 1444.11.11 527739 1 -10" "H 0" "U 1 1444.02.30 1444.02.30" "E 1 1444.11.11.3 1444.11.11.3 0 5 0"
    "V 1 1836.2.3.6 1836.2.3.6 0 0 0")
    -- no record, of each version; what follows a book is none of it
    ∷ (report (book 1 1 []) is days "D 0")
    ∷ (report (book 1 2 []) is days "D 0")
    ∷ (report (book 1 1 day11) is days "D 0")
    -- one of each kind; two of R and of H, the later date first
    ∷ (report (book 31 1 (victoria6 ++ europa3 ++ uniform ++ hour24 ++ day11 ++ raw))
    is six "R 1 1444.2.31.24 1444.2.31.24" "D 1 1444.11.11 1444.11.11 0 4 0" "H 1 1936.1.1.24 1936.1.1.24" "U 1 1444.02.30 1444.02.30"
    "E 1 1444.11.11.3 1444.11.11.3 0 1 0" "V 1 1836.2.3.6 1836.2.3.6 0 0 0")
    ∷ (report (book 21 1 (hour24 ++ hour1 ++ raw ++ raw_before))
    is six "R 2 -5.1.1 1444.2.31.24" "D 0" "H 2 1936.1.1.1 1936.1.1.24" "U 0" "E 0" "V 0")
    -- every step 0: the first record's place, among all records of the book
    ∷ (report (book 21 1 (raw ++ day11 ++ day11 ++ day11)) is six "R 1 1444.2.31.24 1444.2.31.24" "D 3 1444.11.11 1444.11.11 0 1 0" "H 0" "U 0" "E 0" "V 0")
    -- a mark makes no step; nor is the date before another for it
    ∷ (report (book 15 2 (2 ∷ 0 ∷ 0 ∷ 5 ∷ 164 ∷ 181 ∷ 129 ∷ 2 ∷ 0 ∷ 0 ∷ 5 ∷ 164 ∷ 181 ∷ 128 ∷ [])) is days "D 2 1444.11.11 1444.11.11 0 0 0")
    -- a step of 1, then three of 11, down, up and down: the first of these, by the record that stands first in the book
    ∷ (report (book 26 1 (day11 ++ day12 ++ day1 ++ day12 ++ day1)) is days "D 5 1444.11.1 1444.11.12 11 1 -10")
    -- the longest step last; records of other kinds between two of one
    ∷ (report (book 31 1 (raw ++ day11 ++ uniform ++ day12 ++ hour1 ++ day1))
    is six "R 1 1444.2.31.24 1444.2.31.24" "D 3 1444.11.1 1444.11.12 11 3 -10" "H 1 1936.1.1.1 1936.1.1.1" "U 1 1444.02.30 1444.02.30" "E 0" "V 0")
    -- across year 0, before which the days of a year run backward: the earliest date has not the least number
    ∷ (report (book 16 1 (zero_first ++ minus_last ++ minus_first)) is days "D 3 -1.1.1 0.1.1 729 0 -365")
    ∷ (report (book 11 1 (minus_first ++ zero_first)) is days "D 2 -1.1.1 0.1.1 365 0 365")
    -- E and V by their hours, which no step counts
    ∷ (report (book 26 1 (europa22 ++ europa0 ++ victoria18 ++ victoria6 ++ victoria_next))
    is six "R 0" "D 0" "H 0" "U 0" "E 2 1444.11.11 1444.11.11.22 0 0 0" "V 3 1836.2.3.6 1836.2.4 1 3 1")
    -- as far as two dates lie apart: up, down, and back
    ∷ (report (book 11 1 (lowest ++ highest)) is days "D 2 -32768.12.31 32767.12.31 23921003 0 23921003")
    ∷ (report (book 11 1 (highest ++ lowest)) is days "D 2 -32768.12.31 32767.12.31 23921003 0 -23921003")
    ∷ (report (book 16 1 (lowest ++ highest ++ lowest)) is days "D 3 -32768.12.31 32767.12.31 23921003 0 0")
    -- 9: under five bytes, length 0, over each version's limit, past the buffer; all before 10
    ∷ (report [] is Refused 9)
    ∷ (report (0 ∷ 0 ∷ 0 ∷ 1 ∷ []) is Refused 9)
    ∷ (report (book 0 1 []) is Refused 9)
    ∷ (report (0 ∷ 0 ∷ 80 ∷ 2 ∷ 1 ∷ []) is Refused 9)
    ∷ (report (0 ∷ 0 ∷ 112 ∷ 2 ∷ 2 ∷ []) is Refused 9)
    ∷ (report (book 6 1 []) is Refused 9)
    ∷ (report (book 0 3 []) is Refused 9)
    ∷ (report (0 ∷ 0 ∷ 80 ∷ 2 ∷ 3 ∷ []) is Refused 9)
    ∷ (report (book 2 3 []) is Refused 9)
    -- 10, also before 9's last case: no whole number of fives, or of sevens; that before 11
    ∷ (report (book 1 0 []) is Refused 10)
    ∷ (report (book 1 3 []) is Refused 10)
    ∷ (report (book 7 3 (day11 ++ 0 ∷ [])) is Refused 10)
    ∷ (report (book 7 1 (day11 ++ 0 ∷ [])) is Refused 9)
    ∷ (report (book 6 2 day11) is Refused 9)
    ∷ (report (book 7 1 (bad ++ 0 ∷ [])) is Refused 9)
    -- 11 with the first one's place: no kind; a mark in version 1; mark 2 in version 2
    ∷ (report (book 16 1 (day11 ++ bad ++ bad)) is RefusedAt 11 1)
    ∷ (report (book 11 1 (marked ++ bad)) is RefusedAt 11 0)
    ∷ (report (book 8 2 (2 ∷ 0 ∷ 0 ∷ 5 ∷ 164 ∷ 181 ∷ 130 ∷ [])) is RefusedAt 11 0)
    ∷ []

pub reports-hold : answers reports ≡ literals reports
unfolding big_endian lengths month_length sum_first first_day day_of_year fits_kind of_kind made packed handed day_number order decimal_in decimal filled dotted_hour dotted
    length_said pieces framed first_bad all_pass records kind_of_code year_of_twos entry_from joined field_entry_of format_by placed_from earlier later earliest latest longer longest
    steps_from kind_text kind_line report_text report
reports-hold = refl

-- ---- what the program prints: a report, or "only the word refused, the number and 11's place"

abbrev prints : List (Case (List ℕ))
prints =
    (printed (report (book 6 1 day11))
    is (bytes "R 0" line bytes "D 1 1444.11.11 1444.11.11 0 0 0" line bytes "H 0" line bytes "U 0" line bytes "E 0" line bytes "V 0" line []))
    ∷ (printed (report (book 0 1 [])) is (bytes "refused 9" line []))
    ∷ (printed (report (book 1 3 [])) is (bytes "refused 10" line []))
    ∷ (printed (report (book 11 1 (day11 ++ bad))) is (bytes "refused 11 1" line []))
    ∷ (printed (RefusedAt 11 0) is (bytes "refused 11 0" line []))
    ∷ (printed (RefusedAt 11 4095) is (bytes "refused 11 4095" line []))
    ∷ []

pub prints-hold : answers prints ≡ literals prints
unfolding big_endian lengths month_length sum_first first_day day_of_year fits_kind of_kind made packed handed day_number order decimal_in decimal dotted_hour dotted length_said
    pieces framed first_bad all_pass records kind_of_code year_of_twos entry_from joined format_by placed_from earliest latest longest steps_from kind_text kind_line report_text
    report printed
prints-hold = refl

-- ---- a report in a lent buffer: 24 bytes where there is no record

abbrev rooms : List (Case (Answer ℕ))
rooms =
    (put_answer (report (book 1 1 [])) (replicate 24 126) is Gives 24)
    ∷ (put_answer (report (book 1 1 [])) (replicate 23 126) is Refused 7)
    ∷ (put_answer (report (book 1 1 [])) (replicate 25 126) is Gives 24)
    -- 7 after 9, 10, 9's last case and 11
    ∷ (put_answer (report (book 1 1 [])) [] is Refused 7)
    ∷ (put_answer (report (book 0 1 [])) [] is Refused 9)
    ∷ (put_answer (report (book 1 3 [])) [] is Refused 10)
    ∷ (put_answer (report (book 6 2 day11)) [] is Refused 9)
    ∷ (put_answer (report (book 11 1 (day11 ++ bad))) [] is RefusedAt 11 1)
    ∷ []

pub rooms-hold : answers rooms ≡ literals rooms
unfolding big_endian lengths month_length fits_kind of_kind made handed decimal_in decimal put_answer length_said pieces framed first_bad all_pass records kind_of_code year_of_twos
    entry_from joined format_by placed_from kind_text kind_line report_text report
rooms-hold = refl

abbrev buffers : List (Case (List ℕ))
buffers =
    -- just enough; one more, which stays; one too few, and a refused book: nothing is written
    (put_buffer (report (book 1 1 [])) (replicate 24 126)
    is (bytes "R 0" line bytes "D 0" line bytes "H 0" line bytes "U 0" line bytes "E 0" line bytes "V 0" line []))
    ∷ (put_buffer (report (book 1 1 [])) (replicate 25 126)
    is (bytes "R 0" line bytes "D 0" line bytes "H 0" line bytes "U 0" line bytes "E 0" line bytes "V 0" line bytes "~"))
    ∷ (put_buffer (report (book 1 1 [])) (replicate 23 126) is bytes "~~~~~~~~~~~~~~~~~~~~~~~")
    ∷ (put_buffer (report (book 0 1 [])) (replicate 2 126) is bytes "~~")
    ∷ (put_buffer (report (book 1 3 [])) (replicate 2 126) is bytes "~~")
    ∷ (put_buffer (report (book 11 1 (day11 ++ bad))) (replicate 2 126) is bytes "~~")
    ∷ []

pub buffers-hold : answers buffers ≡ literals buffers
unfolding big_endian lengths month_length fits_kind of_kind made handed decimal_in decimal put_answer put_buffer length_said pieces framed first_bad all_pass records kind_of_code
    year_of_twos entry_from joined format_by placed_from kind_text kind_line report_text report
buffers-hold = refl
