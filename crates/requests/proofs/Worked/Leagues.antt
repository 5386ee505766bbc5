-- Worked cases of #109, each list one theorem by computation: both sides of every bound, every refusal, and each pair of neighbours in the
-- order of refusals. Assumes nothing.
use Prim.Native.Nat.{ℕ, ◌+◌}
use mathlib.Core.Path.{◌≡◌, refl}
use mathlib.Core.Bool.{Bool, true, false}
use mathlib.Core.List.{List, [], ◌∷◌, ◌++◌}
use lib.IntN.{pos, negsuc}
use lib.ListN.{replicate}
use Rattle.rules.specs.Words.{big_endian, big_bytes}
use Rattle.rules.specs.Refusals.{Answer, Gives, Refused, ◌then◌}
use Rattle.rules.specs.Calendar.{lengths, month_length, walk, month_day}
use Rattle.rules.specs.Kinds.{kD, kE, fits_kind, of_kind, made, settled}
use Rattle.rules.specs.Numbers.{number_fields, decoded, read_number, guess_number}
use Rattle.rules.specs.Book.{length_said, pieces, framed, pick, new_answer, new_buffer}
use Rattle.rules.proofs.Worked.Cases.{Case, ◌is◌, answers, literals}
use Rattle.requests.specs.Entries.{ascends, keep, declare, remove}
use Rattle.requests.specs.Laid.{joined, laid}
use Rattle.requests.specs.FieldTable.{table1, key_in, code_in, kind_among, Declared, declaring, declared_by, entry_bytes, entry_for, all_declare, entries, counted, check, declare_in, remove_in, table_buffer, Looked, look_by}
use Rattle.requests.specs.Leagues.{all_owned, within_shares, shared_entries, own_of, own_entries, own_entry_at, declare_own, own_declaration, own_declare_buffer, own_removal, own_remove_buffer, own_lookup, moved_entries, moved_buffer}

-- ---- tables: an empty one; field 5 of league 1 as D and of league 2 as E; a version 1 table of fields 5 and 7 as D and E

abbrev none : List ℕ
none = 0 ∷ 0 ∷ 0 ∷ 1 ∷ 2 ∷ []

abbrev both : List ℕ
both = 0 ∷ 0 ∷ 0 ∷ 9 ∷ 2 ∷ 1 ∷ 0 ∷ 5 ∷ 2 ∷ 2 ∷ 0 ∷ 5 ∷ 5 ∷ []

abbrev old : List ℕ
old = 0 ∷ 0 ∷ 0 ∷ 7 ∷ 1 ∷ 0 ∷ 5 ∷ 2 ∷ 0 ∷ 7 ∷ 5 ∷ []

abbrev moved : List ℕ
moved = 0 ∷ 0 ∷ 0 ∷ 9 ∷ 2 ∷ 1 ∷ 0 ∷ 5 ∷ 2 ∷ 1 ∷ 0 ∷ 7 ∷ 5 ∷ []

-- a table of one entry, of that league, field and code, whose length says so many bytes, of that version
abbrev of : ℕ → ℕ → ℕ → ℕ → ℕ → ℕ → List ℕ
of said version league high low code = 0 ∷ 0 ∷ 0 ∷ said ∷ version ∷ league ∷ high ∷ low ∷ code ∷ []

-- so many entries of a league, as `within_shares` counts them
abbrev many : ℕ → ℕ → List (List ℕ)
many n league = replicate n (league ∷ 0 ∷ 5 ∷ 2 ∷ [])

-- ---- the buffer after a call

abbrev buffers : List (Case (List ℕ))
buffers =
    (new_buffer 2 (replicate 6 9) is none ++ 9 ∷ [])
    -- both declare the same field; a league's entry stands before, between and behind
    ∷ (own_declare_buffer (none ++ replicate 9 9) 2 5 5 is 0 ∷ 0 ∷ 0 ∷ 5 ∷ 2 ∷ 2 ∷ 0 ∷ 5 ∷ 5 ∷ replicate 5 9)
    ∷ (own_declare_buffer (0 ∷ 0 ∷ 0 ∷ 5 ∷ 2 ∷ 2 ∷ 0 ∷ 5 ∷ 5 ∷ replicate 5 9) 1 5 2 is both ++ 9 ∷ [])
    ∷ (own_declare_buffer (both ++ replicate 4 9) 1 6 1 is 0 ∷ 0 ∷ 0 ∷ 13 ∷ 2 ∷ 1 ∷ 0 ∷ 5 ∷ 2 ∷ 1 ∷ 0 ∷ 6 ∷ 1 ∷ 2 ∷ 0 ∷ 5 ∷ 5 ∷ [])
    ∷ (own_declare_buffer (both ++ replicate 4 9) 2 65535 6 is 0 ∷ 0 ∷ 0 ∷ 13 ∷ 2 ∷ 1 ∷ 0 ∷ 5 ∷ 2 ∷ 2 ∷ 0 ∷ 5 ∷ 5 ∷ 2 ∷ 255 ∷ 255 ∷ 6 ∷ [])
    ∷ (own_declare_buffer both 1 5 3 is 0 ∷ 0 ∷ 0 ∷ 9 ∷ 2 ∷ 1 ∷ 0 ∷ 5 ∷ 3 ∷ 2 ∷ 0 ∷ 5 ∷ 5 ∷ [])
    -- "A removal zeroes the four bytes freed"
    ∷ (own_remove_buffer (both ++ 9 ∷ []) 1 5 is 0 ∷ 0 ∷ 0 ∷ 5 ∷ 2 ∷ 2 ∷ 0 ∷ 5 ∷ 5 ∷ 0 ∷ 0 ∷ 0 ∷ 0 ∷ 9 ∷ [])
    ∷ (own_remove_buffer (both ++ 9 ∷ []) 2 5 is 0 ∷ 0 ∷ 0 ∷ 5 ∷ 2 ∷ 1 ∷ 0 ∷ 5 ∷ 2 ∷ 0 ∷ 0 ∷ 0 ∷ 0 ∷ 9 ∷ [])
    -- a refusal changes no byte: 15, 16, 14, 10
    ∷ (own_declare_buffer (both ++ replicate 3 9) 1 6 1 is both ++ replicate 3 9)
    ∷ (own_remove_buffer both 1 6 is both)
    ∷ (own_declare_buffer (both ++ replicate 4 9) 3 6 1 is both ++ replicate 4 9)
    ∷ (own_remove_buffer old 1 5 is old)
    -- the move: "as a table of league 1 alone", later bytes as they were; an empty one; too short by a byte
    ∷ (moved_buffer old (replicate 15 9) is moved ++ replicate 2 9)
    ∷ (moved_buffer (0 ∷ 0 ∷ 0 ∷ 1 ∷ 1 ∷ []) (replicate 6 9) is none ++ 9 ∷ [])
    ∷ (moved_buffer old (replicate 12 9) is replicate 12 9)
    ∷ (moved_buffer both (replicate 15 9) is replicate 15 9)
    ∷ []

pub buffers-hold : answers buffers ≡ literals buffers
unfolding big_endian big_bytes length_said pieces framed new_answer new_buffer ascends keep declare remove joined laid key_in code_in kind_among declaring
    declared_by entry_bytes entry_for all_declare entries declare_in remove_in table_buffer all_owned shared_entries declare_own own_declaration own_removal moved_entries
buffers-hold = refl

-- ---- what a league is told, or its refusal

abbrev told : List (Case (Answer ℕ))
told =
    (counted (own_entries none 1) is Gives 0)
    ∷ (counted (own_entries both 1) is Gives 1)
    ∷ (counted (own_entries both 2) is Gives 1)
    ∷ (counted (own_entries moved 1) is Gives 2)
    ∷ (counted (own_entries moved 2) is Gives 0)
    -- 9: length 0, over 8,193, past the buffer; 10; 9 that is no whole number of fours
    ∷ (counted (own_entries (0 ∷ 0 ∷ 0 ∷ 1 ∷ []) 1) is Refused 9)
    ∷ (counted (own_entries (of 0 2 1 0 5 2) 1) is Refused 9)
    ∷ (counted (own_entries (0 ∷ 0 ∷ 32 ∷ 2 ∷ 2 ∷ []) 1) is Refused 9)
    ∷ (counted (own_entries (0 ∷ 0 ∷ 0 ∷ 5 ∷ 2 ∷ []) 1) is Refused 9)
    ∷ (counted (own_entries (of 5 1 1 0 5 2) 1) is Refused 10)
    ∷ (counted (own_entries (of 4 2 1 0 5 2) 1) is Refused 9)
    -- a version 2 call is 10 to a version 1 table, and a version 1 call 10 to a version 2 table, or 9 over 6,145
    ∷ (counted (own_entries old 1) is Refused 10)
    ∷ (check table1 both is Refused 10)
    ∷ (check table1 (0 ∷ 0 ∷ 24 ∷ 5 ∷ 2 ∷ []) is Refused 9)
    -- 10 before 14, 9 before 10 and before 14
    ∷ (counted (own_entries (of 5 1 0 0 5 2) 257) is Refused 10)
    ∷ (counted (own_entries (of 0 1 0 0 5 2) 257) is Refused 9)
    ∷ (counted (own_entries (of 4 2 0 0 5 2) 257) is Refused 9)
    -- 14: a league byte other than 1 or 2, field 0, a code not allowed, entries equal and descending by league
    ∷ (counted (own_entries (of 5 2 0 0 5 2) 1) is Refused 14)
    ∷ (counted (own_entries (of 5 2 1 0 5 2) 1) is Gives 1)
    ∷ (counted (own_entries (of 5 2 2 0 5 2) 1) is Gives 0)
    ∷ (counted (own_entries (of 5 2 3 0 5 2) 1) is Refused 14)
    ∷ (counted (own_entries (of 5 2 255 0 5 2) 1) is Refused 14)
    ∷ (counted (own_entries (of 5 2 1 0 0 2) 1) is Refused 14)
    ∷ (counted (own_entries (of 5 2 2 0 0 2) 1) is Refused 14)
    ∷ (counted (own_entries (of 5 2 2 255 255 2) 2) is Gives 1)
    ∷ (counted (own_entries (of 5 2 1 0 5 4) 1) is Refused 14)
    ∷ (counted (own_entries (0 ∷ 0 ∷ 0 ∷ 9 ∷ 2 ∷ 1 ∷ 0 ∷ 5 ∷ 2 ∷ 1 ∷ 0 ∷ 5 ∷ 2 ∷ []) 1) is Refused 14)
    ∷ (counted (own_entries (0 ∷ 0 ∷ 0 ∷ 9 ∷ 2 ∷ 2 ∷ 0 ∷ 1 ∷ 2 ∷ 1 ∷ 0 ∷ 5 ∷ 2 ∷ []) 1) is Refused 14)
    -- 14 in a call: league 0, 3 and 257, which is never cut; the field; the code; before 15 and 16
    ∷ (counted (own_entries both 0) is Refused 14)
    ∷ (counted (own_entries both 3) is Refused 14)
    ∷ (counted (own_entries both 257) is Refused 14)
    ∷ (counted (own_of 257 (own_declaration both 257 6 1)) is Refused 14)
    ∷ (counted (own_of 1 (own_declaration both 1 0 1)) is Refused 14)
    ∷ (counted (own_of 1 (own_declaration both 1 65536 1)) is Refused 14)
    ∷ (counted (own_of 1 (own_declaration both 1 6 4)) is Refused 14)
    ∷ (counted (own_of 1 (own_declaration both 1 6 258)) is Refused 14)
    ∷ (counted (own_of 3 (own_removal both 3 6)) is Refused 14)
    ∷ (counted (own_of 1 (own_removal both 1 0)) is Refused 14)
    ∷ (counted (own_of 1 (own_removal both 1 65536)) is Refused 14)
    -- one's own entries afterwards; 15 for a short buffer; a field that is there needs no room; 16, also where the other has the field
    ∷ (counted (own_of 1 (own_declaration (both ++ replicate 4 9) 1 6 1)) is Gives 2)
    ∷ (counted (own_of 1 (own_declaration (both ++ replicate 3 9) 1 6 1)) is Refused 15)
    ∷ (counted (own_of 1 (own_declaration both 1 5 1)) is Gives 1)
    ∷ (counted (own_of 2 (own_removal both 2 5)) is Gives 0)
    ∷ (counted (own_of 2 (own_removal both 2 6)) is Refused 16)
    ∷ (counted (own_of 2 (own_removal moved 2 5)) is Refused 16)
    -- the table's refusals before the call's
    ∷ (counted (own_of 3 (own_declaration (of 0 2 1 0 5 2) 3 0 9)) is Refused 9)
    ∷ (counted (own_of 3 (own_removal (of 5 1 1 0 5 2) 3 0)) is Refused 10)
    -- the move: 9, 10 and 14 of the source before 15, which is also for a target under five bytes
    ∷ (counted (moved_entries old (replicate 13 9)) is Gives 2)
    ∷ (counted (moved_entries old (replicate 12 9)) is Refused 15)
    ∷ (counted (moved_entries (0 ∷ 0 ∷ 0 ∷ 1 ∷ 1 ∷ []) (replicate 5 9)) is Gives 0)
    ∷ (counted (moved_entries (0 ∷ 0 ∷ 0 ∷ 1 ∷ 1 ∷ []) (replicate 4 9)) is Refused 15)
    ∷ (counted (moved_entries (0 ∷ 0 ∷ 0 ∷ 0 ∷ 1 ∷ []) []) is Refused 9)
    ∷ (counted (moved_entries both []) is Refused 10)
    ∷ (counted (moved_entries (0 ∷ 0 ∷ 0 ∷ 4 ∷ 1 ∷ 0 ∷ 0 ∷ 2 ∷ []) []) is Refused 14)
    ∷ []

pub told-hold : answers told ≡ literals told
unfolding big_endian big_bytes length_said pieces framed ascends keep declare remove key_in code_in kind_among declaring declared_by entry_bytes entry_for
    all_declare entries counted declare_in remove_in all_owned shared_entries own_of own_entries declare_own own_declaration own_removal moved_entries
told-hold = refl

-- "each league has at most 1,024"
abbrev shares : List (Case Bool)
shares =
    (within_shares (many 1024 1) is true)
    ∷ (within_shares (many 1025 1) is false)
    ∷ (within_shares (many 1024 2) is true)
    ∷ (within_shares (many 1025 2) is false)
    ∷ (within_shares (many 1024 1 ++ many 1024 2) is true)
    ∷ []

pub shares-hold : answers shares ≡ literals shares
unfolding big_endian keep key_in
shares-hold = refl

-- ---- the entry at a place among one's own: its field, without the league

abbrev places : List (Case (Answer Declared))
places =
    (own_entry_at both 1 0 is Gives (record { key = 5; kind = kD }))
    ∷ (own_entry_at both 2 0 is Gives (record { key = 5; kind = kE }))
    ∷ (own_entry_at both 1 1 is Refused 13)
    ∷ (own_entry_at both 2 1 is Refused 13)
    ∷ (own_entry_at moved 1 1 is Gives (record { key = 7; kind = kE }))
    ∷ (own_entry_at moved 2 0 is Refused 13)
    ∷ (own_entry_at both 257 9 is Refused 14)
    ∷ (own_entry_at old 257 9 is Refused 10)
    ∷ []

pub places-hold : answers places ≡ literals places
unfolding big_endian big_bytes length_said pieces framed pick ascends keep key_in code_in kind_among declaring declared_by all_declare entries all_owned
    shared_entries own_entries own_entry_at
places-hold = refl

-- ---- lookups, of 56456976, which is 1444.11.11 at hour 0, and of 56456977, an hour later: D's guess takes the first alone, the full
-- decoder both

abbrev found : Answer Looked → Answer ℕ
found a = a then λ l. Gives (number l.guessed)
  where
    number : Bool → ℕ
    number true = 1
    number false = 0

abbrev lookups : List (Case (Answer ℕ))
lookups =
    -- declared by one's own league alone
    (found (own_lookup both 1 5 2 (pos 56456977)) is Gives 0)
    ∷ (found (own_lookup moved 1 5 2 (pos 56456977)) is Gives 0)
    ∷ (found (own_lookup moved 2 5 2 (pos 56456976)) is Gives 1)
    ∷ (found (own_lookup moved 2 5 2 (pos 56456977)) is Refused 3)
    ∷ (found (own_lookup both 1 6 2 (pos 56456976)) is Gives 1)
    -- 14 before 3; the table's refusals before the call's
    ∷ (found (own_lookup both 257 5 2 (negsuc 0)) is Refused 14)
    ∷ (found (own_lookup both 1 0 2 (negsuc 0)) is Refused 14)
    ∷ (found (own_lookup both 1 5 1 (negsuc 0)) is Refused 14)
    ∷ (found (own_lookup both 1 5 2 (negsuc 0)) is Refused 3)
    ∷ (found (own_lookup old 257 0 1 (negsuc 0)) is Refused 10)
    ∷ []

pub lookups-hold : answers lookups ≡ literals lookups
unfolding big_endian big_bytes length_said pieces framed ascends keep key_in code_in kind_among declaring declared_by all_declare entries look_by all_owned
    shared_entries own_lookup lengths month_length walk month_day fits_kind of_kind made settled number_fields decoded read_number guess_number
lookups-hold = refl
