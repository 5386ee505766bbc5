-- Document 01's small examples of what is written: texts, the book's bytes, numbers. Assumes nothing.
use Prim.Native.Nat.{ℕ}
use mathlib.Core.Path.{◌≡◌, refl}
use mathlib.Core.List.{List, [], ◌∷◌}
use lib.IntN.{ℤ, pos, negsuc}
use lib.ListN.{replicate}
use Rattle.rules.specs.Words.{bytes, big_endian, big_bytes}
use Rattle.rules.specs.Refusals.{Answer, Gives, Refused, RefusedAt}
use Rattle.rules.specs.Calendar.{lengths, month_length, sum_first, first_day, day_of_year}
use Rattle.rules.specs.Kinds.{kR, kD, kH, kU, kE, kV, in_game_hour, fits_kind, of_kind, made, packed, unpacked, handed}
use Rattle.rules.specs.Numbers.{straight, write_number}
use Rattle.rules.specs.Days.{day_number, difference}
use Rattle.rules.specs.Spelling.{decimal_in, decimal, filled, dotted_hour, dotted, iso_month_day, iso_hour, iso_date, iso, exchange, iso_date_alone, put_answer, put_buffer}
use Rattle.rules.specs.Book.{length_said, pieces, framed, first_bad, all_pass, records, check, append_answer, appended, append_buffer, new_answer, new_buffer, kind_of_code, year_of_twos, entry_bytes, entry_from, version1, entry_for}
use Rattle.rules.proofs.Worked.Cases.{Case, ◌is◌, answers, literals, on, bits}

-- ---- texts

abbrev pub spellings : List (Case (List ℕ))
spellings =
    (iso kD (on (negsuc 4) 1 1 0) is bytes "-005-01-01")
    ∷ (exchange kD (on (negsuc 4) 1 1 0) is bytes "-00005-01-01")
    ∷ (iso kD (on (pos 5) 1 1 0) is bytes "0005-01-01")
    ∷ (exchange kD (on (pos 5) 1 1 0) is bytes "0005-01-01")
    ∷ (iso kD (on (negsuc 32767) 12 31 0) is bytes "-32768-12-31")
    ∷ (exchange kR (on (pos 10000) 12 31 24) is bytes "+10000-12-31T23")
    ∷ (dotted kR (on (negsuc 32767) 12 31 24) is bytes "-32768.12.31.24")
    ∷ (dotted kD (on (pos 0) 1 1 0) is bytes "0.1.1")
    ∷ (dotted kU (on (pos 1444) 2 3 0) is bytes "1444.02.03")
    ∷ (iso kR (on (pos 1444) 1 1 0) is bytes "1444-01-01")
    ∷ (iso kR (on (pos 1444) 1 1 1) is bytes "1444-01-01T00")
    ∷ (iso kH (on (pos 1444) 1 1 24) is bytes "1444-01-01T23")
    ∷ (iso kV (on (pos 1444) 1 1 18) is bytes "1444-01-01T18")
    ∷ (iso kE (on (pos 1444) 1 1 0) is bytes "1444-01-01T08")
    ∷ (iso kE (on (pos 1444) 1 1 22) is bytes "1444-01-01T19")
    ∷ (iso_date (on (pos 1444) 1 1 22) is bytes "1444-01-01")
    ∷ []

pub spellings-hold : answers spellings ≡ literals spellings
unfolding decimal_in decimal filled dotted_hour dotted iso_month_day iso_hour iso_date iso exchange
spellings-hold = refl

-- a text of 5 bytes in buffers of 7, 5 and 4
abbrev five : Answer (List ℕ)
five = Gives (bytes "0.1.1")

abbrev pub buffers : List (Case (List ℕ))
buffers =
    (put_buffer five (bytes "abcdefg") is bytes "0.1.1fg")
    ∷ (put_buffer five (bytes "abcde") is bytes "0.1.1")
    ∷ (put_buffer five (bytes "abcd") is bytes "abcd")
    ∷ (put_buffer (iso_date_alone kD (on (pos 0) 1 1 0)) (bytes "abcdefghijk") is bytes "abcdefghijk")
    ∷ []

pub buffers-hold : answers buffers ≡ literals buffers
unfolding put_answer put_buffer iso_date_alone
buffers-hold = refl

-- ---- the book: D 1444.11.11 alone, in a buffer of 12 bytes

abbrev one : List ℕ
one = append_buffer version1 (entry_for 2 (bits (pos 1444) 46464)) (new_buffer version1.frame.version (replicate 12 7))

abbrev pub books : List (Case (List ℕ))
books =
    (new_buffer version1.frame.version (replicate 12 7) is (0 ∷ 0 ∷ 0 ∷ 1 ∷ 1 ∷ 7 ∷ 7 ∷ 7 ∷ 7 ∷ 7 ∷ 7 ∷ 7 ∷ []))
    ∷ (one is (0 ∷ 0 ∷ 0 ∷ 6 ∷ 1 ∷ 2 ∷ 5 ∷ 164 ∷ 181 ∷ 128 ∷ 7 ∷ 7 ∷ []))
    ∷ (append_buffer version1 (entry_for 2 (bits (pos 1444) 46464)) one is (0 ∷ 0 ∷ 0 ∷ 6 ∷ 1 ∷ 2 ∷ 5 ∷ 164 ∷ 181 ∷ 128 ∷ 7 ∷ 7 ∷ []))
    ∷ (new_buffer version1.frame.version (replicate 4 7) is (7 ∷ 7 ∷ 7 ∷ 7 ∷ []))
    ∷ []

pub books-hold : answers books ≡ literals books
unfolding big_endian big_bytes lengths month_length fits_kind of_kind made packed handed length_said pieces framed first_bad all_pass records
    append_answer appended append_buffer new_answer new_buffer kind_of_code year_of_twos entry_bytes entry_from entry_for check
books-hold = refl

-- ---- numbers

-- lengths, counts and places
abbrev pub counts : List (Case (Answer ℕ))
counts =
    (Gives (in_game_hour 0) is Gives 8)
    ∷ (Gives (in_game_hour 1) is Gives 8)
    ∷ (Gives (in_game_hour 22) is Gives 19)
    ∷ (put_answer five (bytes "abcde") is Gives 5)
    ∷ (put_answer five (bytes "abcd") is Refused 7)
    ∷ (new_answer (replicate 5 7) is Gives 0)
    ∷ (new_answer (replicate 4 7) is Refused 12)
    ∷ (check version1 (replicate 4 0) is Refused 9)
    ∷ (check version1 (0 ∷ 0 ∷ 0 ∷ 0 ∷ 1 ∷ []) is Refused 9)
    ∷ (check version1 (0 ∷ 0 ∷ 80 ∷ 2 ∷ 2 ∷ []) is Refused 9)
    ∷ (check version1 (0 ∷ 0 ∷ 0 ∷ 2 ∷ 2 ∷ []) is Refused 9)
    ∷ (check version1 (0 ∷ 0 ∷ 0 ∷ 2 ∷ 2 ∷ 0 ∷ []) is Refused 10)
    ∷ (check version1 (0 ∷ 0 ∷ 0 ∷ 2 ∷ 1 ∷ 0 ∷ []) is Refused 9)
    ∷ (check version1 (0 ∷ 0 ∷ 0 ∷ 6 ∷ 1 ∷ 7 ∷ 5 ∷ 164 ∷ 181 ∷ 128 ∷ []) is RefusedAt 11 0)
    ∷ (check version1 (0 ∷ 0 ∷ 0 ∷ 11 ∷ 1 ∷ 2 ∷ 5 ∷ 164 ∷ 181 ∷ 128 ∷ 5 ∷ 5 ∷ 164 ∷ 181 ∷ 220 ∷ []) is RefusedAt 11 1)
    ∷ (check version1 one is Gives 1)
    ∷ (append_answer version1 (entry_for 2 (bits (pos 1444) 46464)) (new_buffer version1.frame.version (replicate 12 7)) is Gives 0)
    ∷ (append_answer version1 (entry_for 2 (bits (pos 1444) 46464)) one is Refused 12)
    ∷ (append_answer version1 (entry_for 2 (bits (pos 1444) 46466)) (replicate 4 0) is Refused 4)
    ∷ (append_answer version1 (entry_for 7 (bits (pos 1444) 46464)) (replicate 4 0) is Refused 4)
    ∷ []

pub counts-hold : answers counts ≡ literals counts
unfolding big_endian big_bytes lengths month_length fits_kind of_kind made packed handed length_said pieces framed first_bad all_pass records
    check append_answer appended append_buffer new_answer new_buffer kind_of_code year_of_twos entry_bytes entry_from entry_for put_answer
counts-hold = refl

-- differences, and what D and H write
abbrev pub integers : List (Case (Answer ℤ))
integers =
    (difference kD (on (negsuc 0) 1 1 0) (on (negsuc 0) 1 2 0) is Gives (negsuc 0))
    ∷ (difference kD (on (negsuc 32767) 12 31 0) (on (pos 32767) 12 31 0) is Gives (pos 23921003))
    ∷ (difference kE (on (pos 1444) 11 11 22) (on (pos 1444) 11 12 0) is Gives (pos 1))
    ∷ (difference kH (on (pos 1444) 11 11 1) (on (pos 1444) 11 12 1) is Refused 4)
    ∷ (write_number kD (on (pos 1) 1 1 0) is Gives (pos 43808760))
    ∷ (write_number kH (on (pos 1) 1 1 24) is Gives (pos 43808783))
    ∷ (write_number kD (on (negsuc 32767) 1 1 0) is Gives (negsuc 243247679))
    ∷ (write_number kV (on (pos 1) 1 1 0) is Refused 4)
    ∷ []

pub integers-hold : answers integers ≡ literals integers
unfolding lengths sum_first first_day day_of_year day_number difference straight write_number
integers-hold = refl
