-- Worked cases of #107, each list one theorem by computation: the request's own bytes, both sides of every bound, every refusal, and each
-- pair of neighbours in the order of refusals: 9, 10, 9's last case, 11, 21, 12 and 13. Assumes nothing.
use Prim.Native.Nat.{ℕ}
use mathlib.Core.Path.{◌≡◌, refl}
use mathlib.Core.List.{List, [], ◌∷◌, ◌++◌}
use lib.IntN.{ℤ, pos, negsuc}
use lib.ListN.{length, replicate}
use Rattle.rules.specs.Words.{big_endian, big_bytes}
use Rattle.rules.specs.Refusals.{Answer, Gives, Refused, RefusedAt, ◌then◌}
use Rattle.rules.specs.Calendar.{lengths, month_length}
use Rattle.rules.specs.Kinds.{kD, kU, fits_kind, of_kind, made, packed, Stored, handed}
use Rattle.rules.specs.Book.{length_said, pieces, framed, first_bad, all_pass, records, check, pick, record_at, entry_at, append_answer, appended, append_buffer, new_answer, new_buffer, kind_of_code, year_of_twos, entry_from, version1}
use Rattle.rules.proofs.Worked.Cases.{Case, ◌is◌, answers, literals}
use Rattle.requests.specs.Laid.{joined, laid}
use Rattle.requests.specs.Second.{FieldEntry, field_entry_of, version2, field_entry_bytes, field_entry_for}
use Rattle.requests.specs.Both.{format_by, both}
use Rattle.requests.specs.Moves.{leaving, moved, move_answer, filled_with, move_buffer, upward, downward}

-- ---- dates and records

-- D 1444.11.11, declared and guessed; 2 is no mark
abbrev day : Stored
day = record { year = pos 1444; word = 46464 }

abbrev guess : Stored
guess = record { year = pos 1444; word = 46465 }

abbrev bad_mark : Stored
bad_mark = record { year = pos 1444; word = 46466 }

-- of version 1, then of version 2: plain, guessed, with field 500, both; and one of no kind
abbrev five : List ℕ
five = 2 ∷ 5 ∷ 164 ∷ 181 ∷ 128 ∷ []

abbrev plain : List ℕ
plain = 2 ∷ 0 ∷ 0 ∷ 5 ∷ 164 ∷ 181 ∷ 128 ∷ []

abbrev marked : List ℕ
marked = 2 ∷ 0 ∷ 0 ∷ 5 ∷ 164 ∷ 181 ∷ 129 ∷ []

abbrev fielded : List ℕ
fielded = 2 ∷ 1 ∷ 244 ∷ 5 ∷ 164 ∷ 181 ∷ 128 ∷ []

abbrev full : List ℕ
full = 2 ∷ 1 ∷ 244 ∷ 5 ∷ 164 ∷ 181 ∷ 129 ∷ []

abbrev bad : List ℕ
bad = 7 ∷ 0 ∷ 0 ∷ 5 ∷ 164 ∷ 181 ∷ 128 ∷ []

-- a book whose length says so many bytes, of that version
abbrev book : ℕ → ℕ → List ℕ → List ℕ
book said version rs = 0 ∷ 0 ∷ 0 ∷ said ∷ version ∷ rs

-- ---- check, append and move: what they count, or their refusal

abbrev counts : List (Case (Answer ℕ))
counts =
    -- new; the request's book; two records, and later bytes that are not of it
    (new_answer (replicate 5 9) is Gives 0)
    ∷ (new_answer (replicate 4 9) is Refused 12)
    ∷ (check version2 (book 8 2 full) is Gives 1)
    ∷ (check version2 (book 15 2 (plain ++ full) ++ 9 ∷ []) is Gives 2)
    -- 9: under five bytes, length 0, over 28,673, past the buffer; 9 before 10
    ∷ (check version2 (0 ∷ 0 ∷ 0 ∷ 1 ∷ []) is Refused 9)
    ∷ (check version2 (book 0 2 []) is Refused 9)
    ∷ (check version2 (0 ∷ 0 ∷ 112 ∷ 2 ∷ 1 ∷ []) is Refused 9)
    ∷ (check version2 (book 2 1 []) is Refused 9)
    -- 10, also before 9's last case: no whole number of sevens; that before 11
    ∷ (check version2 (book 1 1 []) is Refused 10)
    ∷ (check version2 (book 1 3 []) is Refused 10)
    ∷ (check version2 (book 6 1 five) is Refused 10)
    ∷ (check version2 (book 9 2 (bad ++ 0 ∷ [])) is Refused 9)
    ∷ (check version2 (book 7 2 full) is Refused 9)
    -- 11 with the first one's place: no kind; marks 2 and 3
    ∷ (check version2 (book 15 2 (full ++ bad)) is RefusedAt 11 1)
    ∷ (check version2 (book 22 2 (full ++ bad ++ bad)) is RefusedAt 11 1)
    ∷ (check version2 (book 8 2 (2 ∷ 0 ∷ 0 ∷ 5 ∷ 164 ∷ 181 ∷ 130 ∷ [])) is RefusedAt 11 0)
    ∷ (check version2 (book 8 2 (2 ∷ 0 ∷ 0 ∷ 5 ∷ 164 ∷ 181 ∷ 131 ∷ [])) is RefusedAt 11 0)
    -- "A version 1 reader still answers 10, or 9 where the length is over 20,481"
    ∷ (check version1 (book 8 2 full) is Refused 10)
    ∷ (check version1 (0 ∷ 0 ∷ 80 ∷ 2 ∷ 2 ∷ []) is Refused 9)
    -- both versions, and any other byte as version 1; 9 of each by its own limit
    ∷ (check (both (book 8 2 full)) (book 8 2 full) is Gives 1)
    ∷ (check (both (book 6 1 five)) (book 6 1 five) is Gives 1)
    ∷ (check (both (book 1 3 [])) (book 1 3 []) is Refused 10)
    ∷ (check (both (book 8 1 full)) (book 8 1 full) is Refused 9)
    ∷ (check (both (0 ∷ 0 ∷ 0 ∷ 1 ∷ [])) (0 ∷ 0 ∷ 0 ∷ 1 ∷ []) is Refused 9)
    -- append: a place; 4 for the kind, for a field over 65,535, for mark 2, before 9; 10 before 12; 11 before 12; 12: seven bytes, or six
    ∷ (append_answer version2 (field_entry_for 2 500 guess) (book 1 2 (replicate 7 9)) is Gives 0)
    ∷ (append_answer version2 (field_entry_for 2 65535 day) (book 8 2 (full ++ replicate 7 9)) is Gives 1)
    ∷ (append_answer version2 (field_entry_for 7 500 guess) [] is Refused 4)
    ∷ (append_answer version2 (field_entry_for 2 65536 guess) [] is Refused 4)
    ∷ (append_answer version2 (field_entry_for 2 500 bad_mark) [] is Refused 4)
    ∷ (append_answer version2 (field_entry_for 2 500 guess) [] is Refused 9)
    ∷ (append_answer version2 (field_entry_for 2 500 guess) (book 1 1 []) is Refused 10)
    ∷ (append_answer version2 (field_entry_for 2 500 guess) (book 8 2 bad) is RefusedAt 11 0)
    ∷ (append_answer version2 (field_entry_for 2 500 guess) (book 1 2 (replicate 6 9)) is Refused 12)
    -- to 2: the records; version 2 is 10, 9 beyond 20,481; 11 before 12; 12 one byte short
    ∷ (move_answer upward (book 6 1 five) (replicate 12 9) is Gives 1)
    ∷ (move_answer upward (book 1 1 []) (replicate 5 9) is Gives 0)
    ∷ (move_answer upward (book 8 2 plain) (replicate 12 9) is Refused 10)
    ∷ (move_answer upward (0 ∷ 0 ∷ 80 ∷ 2 ∷ 2 ∷ []) (replicate 12 9) is Refused 9)
    ∷ (move_answer upward (book 6 1 (2 ∷ 5 ∷ 164 ∷ 181 ∷ 129 ∷ [])) [] is RefusedAt 11 0)
    ∷ (move_answer upward (book 6 1 five) (replicate 11 9) is Refused 12)
    -- to 1: the records; version 1 is 10, 9 beyond 28,673; a mark, a field number, both are 21, the first one's place
    ∷ (move_answer downward (book 8 2 plain) (replicate 10 9) is Gives 1)
    ∷ (move_answer downward (book 6 1 five) (replicate 10 9) is Refused 10)
    ∷ (move_answer downward (0 ∷ 0 ∷ 112 ∷ 2 ∷ 1 ∷ []) (replicate 10 9) is Refused 9)
    ∷ (move_answer downward (book 8 2 marked) (replicate 10 9) is RefusedAt 21 0)
    ∷ (move_answer downward (book 8 2 fielded) (replicate 10 9) is RefusedAt 21 0)
    ∷ (move_answer downward (book 22 2 (plain ++ full ++ full)) (replicate 20 9) is RefusedAt 21 1)
    -- 11 before 21, whatever their places; 21 before 12; 12 one byte short
    ∷ (move_answer downward (book 15 2 (full ++ bad)) (replicate 15 9) is RefusedAt 11 1)
    ∷ (move_answer downward (book 15 2 (bad ++ full)) [] is RefusedAt 11 0)
    ∷ (move_answer downward (book 8 2 full) [] is RefusedAt 21 0)
    ∷ (move_answer downward (book 8 2 plain) (replicate 9 9) is Refused 12)
    ∷ []

pub counts-hold : answers counts ≡ literals counts
unfolding big_endian big_bytes lengths month_length fits_kind of_kind made handed length_said pieces framed first_bad all_pass records check append_answer new_answer kind_of_code
    year_of_twos entry_from field_entry_of field_entry_bytes field_entry_for format_by leaving moved move_answer
counts-hold = refl

-- ---- the buffer after a call

abbrev buffers : List (Case (List ℕ))
buffers =
    -- "field 500, D 1444.11.11 guessed"; later bytes as they were
    (new_buffer 2 (replicate 6 9) is book 1 2 (9 ∷ []))
    ∷ (append_buffer version2 (field_entry_for 2 500 guess) (book 1 2 (replicate 8 9)) is book 8 2 (full ++ 9 ∷ []))
    ∷ (field_entry_bytes kU 65535 day is 4 ∷ 255 ∷ 255 ∷ 5 ∷ 164 ∷ 181 ∷ 128 ∷ [])
    -- to 2 and back: the same bytes
    ∷ (move_buffer upward (book 6 1 five) (replicate 13 9) is book 8 2 (plain ++ 9 ∷ []))
    ∷ (move_buffer downward (book 8 2 (plain ++ 9 ∷ [])) (replicate 12 8) is book 6 1 (five ++ 8 ∷ 8 ∷ []))
    ∷ (move_buffer upward (book 1 1 []) (replicate 6 9) is book 1 2 (9 ∷ []))
    -- a refusal changes no byte: 12, 21, 11, 10
    ∷ (append_buffer version2 (field_entry_for 2 500 guess) (book 1 2 (replicate 6 9)) is book 1 2 (replicate 6 9))
    ∷ (move_buffer upward (book 6 1 five) (replicate 11 9) is replicate 11 9)
    ∷ (move_buffer downward (book 8 2 full) (replicate 10 9) is replicate 10 9)
    ∷ (move_buffer downward (book 8 2 bad) (replicate 10 9) is replicate 10 9)
    ∷ (move_buffer upward (book 8 2 plain) (replicate 12 9) is replicate 12 9)
    ∷ []

pub buffers-hold : answers buffers ≡ literals buffers
unfolding big_endian big_bytes lengths month_length fits_kind of_kind made handed length_said pieces framed first_bad all_pass records check append_answer appended append_buffer
    new_answer new_buffer kind_of_code year_of_twos entry_from joined laid field_entry_of field_entry_bytes field_entry_for leaving moved filled_with
buffers-hold = refl

-- ---- the record at a place

abbrev found : List (Case (Answer FieldEntry))
found =
    (entry_at version2 (book 15 2 (plain ++ full)) 1 is Gives (record { kind = kD; field = 500; date = guess }))
    -- U with a field, and the years' least
    ∷ (entry_at version2 (book 8 2 (4 ∷ 255 ∷ 255 ∷ 128 ∷ 0 ∷ 181 ∷ 128 ∷ [])) 0 is Gives (record { kind = kU; field = 65535; date = record { year = negsuc 32767; word = 46464 } }))
    -- of either version: no field number in version 1
    ∷ (entry_at (both (book 8 2 full)) (book 8 2 full) 0 is Gives (record { kind = kD; field = 500; date = guess }))
    ∷ (entry_at (both (book 6 1 five)) (book 6 1 five) 0 is Gives (record { kind = kD; field = 0; date = day }))
    -- 11 before 13; 13
    ∷ (entry_at version2 (book 8 2 bad) 1 is RefusedAt 11 0)
    ∷ (entry_at version2 (book 8 2 full) 1 is Refused 13)
    ∷ (entry_at (both (book 6 1 five)) (book 6 1 five) 1 is Refused 13)
    ∷ []

pub found-hold : answers found ≡ literals found
unfolding big_endian lengths month_length fits_kind of_kind made packed handed length_said pieces framed first_bad all_pass records pick record_at entry_at kind_of_code year_of_twos
    entry_from field_entry_of format_by
found-hold = refl

-- ---- the limits themselves: what follows the length is all there, and the version is another's

abbrev limits : List (Case (Answer ℕ))
limits =
    (check version1 (0 ∷ 0 ∷ 80 ∷ 1 ∷ 2 ∷ replicate 20480 0) is Refused 10)
    ∷ (check version1 (0 ∷ 0 ∷ 80 ∷ 2 ∷ 2 ∷ replicate 20481 0) is Refused 9)
    ∷ (check version2 (0 ∷ 0 ∷ 112 ∷ 1 ∷ 1 ∷ replicate 28672 0) is Refused 10)
    ∷ (check version2 (0 ∷ 0 ∷ 112 ∷ 2 ∷ 1 ∷ replicate 28673 0) is Refused 9)
    ∷ []

pub limits-hold : answers limits ≡ literals limits
unfolding big_endian length_said framed records check
limits-hold = refl
