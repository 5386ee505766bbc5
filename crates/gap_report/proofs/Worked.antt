-- Worked cases of the figures of #108, each list one theorem by computation: the request's own example in both versions, no record, both
-- signs of the sum, kinds that count no days, refusals and the room. Assumes nothing.
use Prim.Native.Nat.{ℕ}
use mathlib.Core.Path.{◌≡◌, refl}
use mathlib.Core.List.{List, [], ◌∷◌, ◌++◌}
use lib.IntN.{ℤ, pos}
use lib.ListN.{replicate}
use Rattle.rules.specs.Words.{minus, big_endian}
use Rattle.rules.specs.Refusals.{Answer, Gives, Refused, RefusedAt}
use Rattle.rules.specs.Calendar.{lengths, month_length, sum_first, first_day, day_of_year}
use Rattle.rules.specs.Kinds.{fits_kind, of_kind, made, packed, handed}
use Rattle.rules.specs.Days.{day_number, order}
use Rattle.rules.specs.Book.{length_said, pieces, framed, first_bad, all_pass, records, kind_of_code, year_of_twos, entry_from}
use Rattle.rules.proofs.Worked.Cases.{Case, ◌is◌, answers, literals}
use Rattle.requests.specs.Second.{field_entry_of}
use Rattle.requests.specs.Both.{format_by}
use Rattle.requests.specs.Gaps.{placed_from, earlier, later, earliest, latest, longer, longest, steps_from}
use Rattle.gap_report.specs.Figures.{zeros, kind_figures, together, figures_of, figures, figures_answer, figures_over}

-- ---- books

-- a book whose length says so many bytes, of that version
abbrev book : ℕ → ℕ → List ℕ → List ℕ
book said version rs = 0 ∷ 0 ∷ 0 ∷ said ∷ version ∷ rs

-- V 1836.2.3.6, D 1444.11.11, U 1444.2.30, D -1.1.1, D 1444.11.1, E 1444.11.11.3; and in version 2, with field numbers and marks
abbrev example1 : List ℕ
example1 =
    book 31 1 (6 ∷ 7 ∷ 44 ∷ 33 ∷ 152 ∷ 2 ∷ 5 ∷ 164 ∷ 181 ∷ 128 ∷ 4 ∷ 5 ∷ 164 ∷ 47 ∷ 0
    ∷ 2 ∷ 255 ∷ 255 ∷ 16 ∷ 128 ∷ 2 ∷ 5 ∷ 164 ∷ 176 ∷ 128 ∷ 5 ∷ 5 ∷ 164 ∷ 181 ∷ 140 ∷ [])

abbrev example2 : List ℕ
example2 =
    book 43 2 (6 ∷ 1 ∷ 244 ∷ 7 ∷ 44 ∷ 33 ∷ 153 ∷ 2 ∷ 0 ∷ 0 ∷ 5 ∷ 164 ∷ 181 ∷ 129 ∷ 4 ∷ 255 ∷ 255 ∷ 5 ∷ 164 ∷ 47 ∷ 0
    ∷ 2 ∷ 0 ∷ 1 ∷ 255 ∷ 255 ∷ 16 ∷ 128 ∷ 2 ∷ 0 ∷ 0 ∷ 5 ∷ 164 ∷ 176 ∷ 129 ∷ 5 ∷ 0 ∷ 7 ∷ 5 ∷ 164 ∷ 181 ∷ 141 ∷ [])

-- H 1936.1.1.24 and H 1936.1.1.1; D 1444.11.1 and D 1444.11.11
abbrev hours : List ℕ
hours = book 11 1 (3 ∷ 7 ∷ 144 ∷ 16 ∷ 224 ∷ 3 ∷ 7 ∷ 144 ∷ 16 ∷ 132 ∷ [])

abbrev forth : List ℕ
forth = book 11 1 (2 ∷ 5 ∷ 164 ∷ 176 ∷ 128 ∷ 2 ∷ 5 ∷ 164 ∷ 181 ∷ 128 ∷ [])

-- the second record is of no kind
abbrev bad : List ℕ
bad = book 11 1 (2 ∷ 5 ∷ 164 ∷ 176 ∷ 128 ∷ 7 ∷ 5 ∷ 164 ∷ 181 ∷ 128 ∷ [])

-- ---- figures

-- (uint16_t)year × 65536 + word, the mark 0: D -1.1.1 and 1444.11.11; U; E; V
abbrev told : List ℤ
told =
    zeros 6 ++ (pos 3 ∷ pos 4294905984 ∷ pos 94680448 ∷ pos 527739 ∷ pos 1 ∷ minus 10 ∷ []) ++ zeros 6
    ++ (pos 1 ∷ pos 94646016 ∷ pos 94646016 ∷ zeros 3) ++ (pos 1 ∷ pos 94680460 ∷ pos 94680460 ∷ pos 0 ∷ pos 5 ∷ pos 0 ∷ [])
    ++ (pos 1 ∷ pos 120332696 ∷ pos 120332696 ∷ zeros 3)

abbrev cases : List (Case (Answer (List ℤ)))
cases =
    (figures example1 is Gives told)
    ∷ (figures example2 is Gives told)
    ∷ (figures (book 1 1 []) is Gives (zeros 36))
    ∷ (figures (book 1 2 []) is Gives (zeros 36))
    -- H counts no days: step, place and sum are 0, though the place would be
    ∷ (figures hours is Gives (zeros 12 ++ (pos 2 ∷ pos 126881924 ∷ pos 126882016 ∷ zeros 3) ++ zeros 18))
    ∷ (figures forth is Gives (zeros 6 ++ (pos 2 ∷ pos 94679168 ∷ pos 94680448 ∷ pos 10 ∷ pos 0 ∷ pos 10 ∷ []) ++ zeros 24))
    -- 9, 10, 11 with its place
    ∷ (figures [] is Refused 9)
    ∷ (figures (book 1 3 []) is Refused 10)
    ∷ (figures bad is RefusedAt 11 1)
    ∷ []

pub cases-hold : answers cases ≡ literals cases
unfolding big_endian lengths month_length sum_first first_day day_of_year fits_kind of_kind made packed handed day_number order
    length_said pieces framed first_bad all_pass records kind_of_code year_of_twos entry_from field_entry_of format_by placed_from earlier later earliest latest longer longest
    steps_from kind_figures together figures_of figures
cases-hold = refl

-- ---- in lent numbers: 36 are enough; 7 after 9, 10 and 11

abbrev rooms : List (Case (Answer ℕ))
rooms =
    (figures_answer (figures (book 1 1 [])) (zeros 36) is Gives 36)
    ∷ (figures_answer (figures (book 1 1 [])) (zeros 37) is Gives 36)
    ∷ (figures_answer (figures (book 1 1 [])) (zeros 35) is Refused 7)
    ∷ (figures_answer (figures []) [] is Refused 9)
    ∷ (figures_answer (figures (book 1 3 [])) [] is Refused 10)
    ∷ (figures_answer (figures bad) [] is RefusedAt 11 1)
    ∷ []

abbrev buffers : List (Case (List ℤ))
buffers =
    (figures_over (figures (book 1 1 [])) (replicate 37 (pos 7)) is (zeros 36 ++ (pos 7 ∷ [])))
    ∷ (figures_over (figures (book 1 1 [])) (replicate 35 (pos 7)) is replicate 35 (pos 7))
    ∷ (figures_over (figures bad) (replicate 37 (pos 7)) is replicate 37 (pos 7))
    ∷ (figures_over (figures []) (replicate 37 (pos 7)) is replicate 37 (pos 7))
    ∷ []

pub rooms-hold : answers rooms ≡ literals rooms
unfolding big_endian lengths month_length fits_kind of_kind made handed length_said pieces framed first_bad all_pass records kind_of_code year_of_twos entry_from format_by placed_from
    kind_figures together figures_of figures figures_answer
rooms-hold = refl

pub buffers-hold : answers buffers ≡ literals buffers
unfolding big_endian lengths month_length fits_kind of_kind made handed length_said pieces framed first_bad all_pass records kind_of_code year_of_twos entry_from format_by placed_from
    kind_figures together figures_of figures figures_over
buffers-hold = refl
