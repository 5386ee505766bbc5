-- Worked cases of #101, each list one theorem by computation: the request's own bytes, both sides of every bound, every refusal, and each
-- pair of neighbours in the order of refusals. Assumes nothing.
use Prim.Native.Nat.{ℕ}
use mathlib.Core.Path.{◌≡◌, refl}
use mathlib.Core.Bool.{Bool, true, false}
use mathlib.Core.List.{List, [], ◌∷◌, ◌++◌}
use lib.IntN.{ℤ, pos, negsuc}
use lib.ListN.{length, replicate}
use Rattle.rules.specs.Words.{big_endian, big_bytes}
use Rattle.rules.specs.Refusals.{Answer, Gives, Refused, ◌then◌}
use Rattle.rules.specs.Calendar.{lengths, month_length, walk, month_day}
use Rattle.rules.specs.Kinds.{kD, kE, fits_kind, of_kind, made, settled, packed}
use Rattle.rules.specs.Numbers.{number_fields, decoded, read_number, guess_number}
use Rattle.rules.specs.Book.{length_said, pieces, framed, pick, new_answer, new_buffer}
use Rattle.rules.proofs.Worked.Cases.{Case, ◌is◌, answers, literals}
use Rattle.requests.specs.Entries.{ascends, keep, declare, remove}
use Rattle.requests.specs.Laid.{joined, laid}
use Rattle.requests.specs.FieldTable.{table1, key_in, code_in, kind_among, Declared, declaring, declared_by, entry_bytes, entry_for, all_declare, entries, counted, check, entry_at, declare_in, remove_in, declared, removed, table_buffer, declare_buffer, remove_buffer, Looked, looked_date, look_by, game_for, lookup}

-- ---- tables: an empty one; 500 as D; fields 5 and 7 as D and E

abbrev none : List ℕ
none = 0 ∷ 0 ∷ 0 ∷ 1 ∷ 1 ∷ []

abbrev one : List ℕ
one = 0 ∷ 0 ∷ 0 ∷ 4 ∷ 1 ∷ 1 ∷ 244 ∷ 2 ∷ []

abbrev two : List ℕ
two = 0 ∷ 0 ∷ 0 ∷ 7 ∷ 1 ∷ 0 ∷ 5 ∷ 2 ∷ 0 ∷ 7 ∷ 5 ∷ []

-- a table of one field, of that number and code, whose length says so many bytes, of that version
abbrev of : ℕ → ℕ → ℕ → ℕ → ℕ → List ℕ
of said version high low code = 0 ∷ 0 ∷ 0 ∷ said ∷ version ∷ high ∷ low ∷ code ∷ []

-- ---- the buffer after a call

abbrev buffers : List (Case (List ℕ))
buffers =
    -- "new, then 500 as D", "declare 3 as V and remove it", later bytes as they were
    (new_buffer 1 (replicate 6 9) is none ++ 9 ∷ [])
    ∷ (declare_buffer table1 (none ++ replicate 6 9) 500 2 is one ++ replicate 3 9)
    ∷ (declare_buffer table1 (one ++ replicate 4 9) 3 6 is 0 ∷ 0 ∷ 0 ∷ 7 ∷ 1 ∷ 0 ∷ 3 ∷ 6 ∷ 1 ∷ 244 ∷ 2 ∷ 9 ∷ [])
    ∷ (remove_buffer table1 (0 ∷ 0 ∷ 0 ∷ 7 ∷ 1 ∷ 0 ∷ 3 ∷ 6 ∷ 1 ∷ 244 ∷ 2 ∷ 9 ∷ []) 3 is one ++ 0 ∷ 0 ∷ 0 ∷ 9 ∷ [])
    -- between, before and behind; in place; the first, the last and the only one removed
    ∷ (declare_buffer table1 (two ++ replicate 3 9) 6 1 is 0 ∷ 0 ∷ 0 ∷ 10 ∷ 1 ∷ 0 ∷ 5 ∷ 2 ∷ 0 ∷ 6 ∷ 1 ∷ 0 ∷ 7 ∷ 5 ∷ [])
    ∷ (declare_buffer table1 (two ++ replicate 3 9) 65535 6 is 0 ∷ 0 ∷ 0 ∷ 10 ∷ 1 ∷ 0 ∷ 5 ∷ 2 ∷ 0 ∷ 7 ∷ 5 ∷ 255 ∷ 255 ∷ 6 ∷ [])
    ∷ (declare_buffer table1 two 5 3 is 0 ∷ 0 ∷ 0 ∷ 7 ∷ 1 ∷ 0 ∷ 5 ∷ 3 ∷ 0 ∷ 7 ∷ 5 ∷ [])
    ∷ (remove_buffer table1 (two ++ 9 ∷ []) 5 is 0 ∷ 0 ∷ 0 ∷ 4 ∷ 1 ∷ 0 ∷ 7 ∷ 5 ∷ 0 ∷ 0 ∷ 0 ∷ 9 ∷ [])
    ∷ (remove_buffer table1 (two ++ 9 ∷ []) 7 is 0 ∷ 0 ∷ 0 ∷ 4 ∷ 1 ∷ 0 ∷ 5 ∷ 2 ∷ 0 ∷ 0 ∷ 0 ∷ 9 ∷ [])
    ∷ (remove_buffer table1 one 500 is none ++ 0 ∷ 0 ∷ 0 ∷ [])
    -- a refusal changes no byte: 15, 16, 14, 9
    ∷ (declare_buffer table1 (two ++ replicate 2 9) 6 1 is two ++ replicate 2 9)
    ∷ (remove_buffer table1 two 6 is two)
    ∷ (declare_buffer table1 (two ++ replicate 3 9) 0 1 is two ++ replicate 3 9)
    ∷ (remove_buffer table1 (0 ∷ 0 ∷ 0 ∷ 0 ∷ 1 ∷ []) 6 is 0 ∷ 0 ∷ 0 ∷ 0 ∷ 1 ∷ [])
    ∷ []

pub buffers-hold : answers buffers ≡ literals buffers
unfolding big_endian big_bytes length_said pieces framed new_answer new_buffer ascends keep declare remove joined laid key_in code_in kind_among
    declaring declared_by entry_bytes entry_for all_declare entries declare_in remove_in declared removed table_buffer
buffers-hold = refl

-- ---- what a call counts, or its refusal

abbrev counts : List (Case (Answer ℕ))
counts =
    (new_answer (replicate 5 9) is Gives 0)
    ∷ (new_answer (replicate 4 9) is Refused 12)
    ∷ (check table1 none is Gives 0)
    ∷ (check table1 two is Gives 2)
    -- 9: under five bytes, length 0, over 6,145, past the buffer; 10; 9 that is no whole number of threes
    ∷ (check table1 (0 ∷ 0 ∷ 0 ∷ 1 ∷ []) is Refused 9)
    ∷ (check table1 (0 ∷ 0 ∷ 0 ∷ 0 ∷ 1 ∷ []) is Refused 9)
    ∷ (check table1 (0 ∷ 0 ∷ 24 ∷ 4 ∷ 1 ∷ []) is Refused 9)
    ∷ (check table1 (0 ∷ 0 ∷ 0 ∷ 2 ∷ 1 ∷ []) is Refused 9)
    ∷ (check table1 (of 4 2 1 244 2) is Refused 10)
    ∷ (check table1 (of 3 1 1 244 2) is Refused 9)
    -- 9 before 10, 10 before 9's last case, that before 14, 10 before 14
    ∷ (check table1 (of 0 2 1 244 2) is Refused 9)
    ∷ (check table1 (of 3 2 1 244 2) is Refused 10)
    ∷ (check table1 (of 3 1 0 0 2) is Refused 9)
    ∷ (check table1 (of 4 2 0 0 2) is Refused 10)
    -- 14: field 0, a code not allowed, entries equal and descending; both sides of each bound
    ∷ (check table1 (of 4 1 0 0 2) is Refused 14)
    ∷ (check table1 (of 4 1 0 1 2) is Gives 1)
    ∷ (check table1 (of 4 1 255 255 2) is Gives 1)
    ∷ (check table1 (of 4 1 1 244 0) is Refused 14)
    ∷ (check table1 (of 4 1 1 244 1) is Gives 1)
    ∷ (check table1 (of 4 1 1 244 3) is Gives 1)
    ∷ (check table1 (of 4 1 1 244 4) is Refused 14)
    ∷ (check table1 (of 4 1 1 244 5) is Gives 1)
    ∷ (check table1 (of 4 1 1 244 6) is Gives 1)
    ∷ (check table1 (of 4 1 1 244 7) is Refused 14)
    ∷ (check table1 (0 ∷ 0 ∷ 0 ∷ 7 ∷ 1 ∷ 0 ∷ 7 ∷ 2 ∷ 0 ∷ 7 ∷ 5 ∷ []) is Refused 14)
    ∷ (check table1 (0 ∷ 0 ∷ 0 ∷ 7 ∷ 1 ∷ 0 ∷ 7 ∷ 2 ∷ 0 ∷ 5 ∷ 5 ∷ []) is Refused 14)
    -- calls: 14 for the field and for the code, before 15 and 16; 15; a field that is there needs no room; 16
    ∷ (counted (declared table1 (two ++ replicate 3 9) 6 1) is Gives 3)
    ∷ (counted (declared table1 two 0 1) is Refused 14)
    ∷ (counted (declared table1 two 65536 1) is Refused 14)
    ∷ (counted (declared table1 two 6 4) is Refused 14)
    ∷ (counted (declared table1 two 6 258) is Refused 14)
    ∷ (counted (declared table1 (two ++ replicate 2 9) 6 1) is Refused 15)
    ∷ (counted (declared table1 two 7 1) is Gives 2)
    ∷ (counted (removed table1 two 7) is Gives 1)
    ∷ (counted (removed table1 two 0) is Refused 14)
    ∷ (counted (removed table1 two 65536) is Refused 14)
    ∷ (counted (removed table1 two 6) is Refused 16)
    -- the table's refusals before the call's
    ∷ (counted (declared table1 (of 0 1 1 244 2) 0 1) is Refused 9)
    ∷ (counted (declared table1 (of 4 2 1 244 2) 0 1) is Refused 10)
    ∷ (counted (removed table1 (of 4 2 1 244 2) 0) is Refused 10)
    ∷ []

pub counts-hold : answers counts ≡ literals counts
unfolding big_endian big_bytes length_said pieces framed new_answer ascends keep declare remove key_in code_in kind_among declaring declared_by
    entry_bytes entry_for all_declare entries counted declare_in remove_in declared removed
counts-hold = refl

-- ---- the entry at a place

abbrev places : List (Case (Answer Declared))
places =
    (entry_at table1 two 0 is Gives (record { key = 5; kind = kD }))
    ∷ (entry_at table1 two 1 is Gives (record { key = 7; kind = kE }))
    ∷ (entry_at table1 two 2 is Refused 13)
    ∷ (entry_at table1 (of 4 1 0 0 2) 9 is Refused 14)
    ∷ []

pub places-hold : answers places ≡ literals places
unfolding big_endian big_bytes length_said pieces framed pick ascends keep key_in code_in kind_among declaring declared_by all_declare entries entry_at
places-hold = refl

-- ---- lookups, of 56456976, which is 1444.11.11 at hour 0, and of 56456977, an hour later: D's guess takes the first alone,
-- V's no year before 1701, the full decoder both

abbrev found : Answer Looked → Answer ℕ
found a = a then λ l. Gives (number l.guessed)
  where
    number : Bool → ℕ
    number true = 1
    number false = 0

abbrev lookups : List (Case (Answer ℕ))
lookups =
    -- declared: the full decoding, whatever the game kind
    (found (lookup table1 two 5 2 (pos 56456977)) is Gives 0)
    ∷ (found (lookup table1 two 5 6 (pos 56456977)) is Gives 0)
    -- absent: the guess
    ∷ (found (lookup table1 two 6 2 (pos 56456976)) is Gives 1)
    ∷ (found (lookup table1 two 6 2 (pos 56456977)) is Refused 3)
    ∷ (found (lookup table1 two 6 6 (pos 56456976)) is Refused 3)
    -- declared, and no date of its kind: 3, never a guess
    ∷ (found (lookup table1 two 5 2 (negsuc 0)) is Refused 3)
    -- 14 for the field and for the game kind, also where it would go unused; before 3
    ∷ (found (lookup table1 two 0 2 (negsuc 0)) is Refused 14)
    ∷ (found (lookup table1 two 65536 2 (negsuc 0)) is Refused 14)
    ∷ (found (lookup table1 two 5 1 (pos 56456976)) is Refused 14)
    ∷ (found (lookup table1 two 5 4 (negsuc 0)) is Refused 14)
    ∷ (found (lookup table1 two 5 259 (pos 56456976)) is Refused 14)
    ∷ (found (lookup table1 (of 4 2 1 244 2) 0 1 (negsuc 0)) is Refused 10)
    ∷ []

pub lookups-hold : answers lookups ≡ literals lookups
unfolding big_endian big_bytes length_said pieces framed ascends keep key_in code_in kind_among declaring declared_by all_declare entries look_by game_for
    lookup lengths month_length walk month_day fits_kind of_kind made settled number_fields decoded read_number guess_number
lookups-hold = refl

-- #106: the date that is handed out, by its word: 46464 is 11.11, and 1 more where it was guessed
abbrev handed_out : Answer Looked → Answer ℕ
handed_out a = a then λ l. Gives (looked_date l).word

abbrev marks : List (Case (Answer ℕ))
marks =
    (handed_out (lookup table1 two 5 2 (pos 56456976)) is Gives 46464)
    ∷ (handed_out (lookup table1 two 6 2 (pos 56456976)) is Gives 46465)
    ∷ []

pub marks-hold : answers marks ≡ literals marks
unfolding big_endian big_bytes length_said pieces framed ascends keep key_in code_in kind_among declaring declared_by all_declare entries look_by game_for
    lookup lengths month_length walk month_day fits_kind of_kind made settled packed number_fields decoded read_number guess_number
marks-hold = refl
