-- Document 02, #109, "A second league on one table": the table of #101 at a key that has the league before the field, what one league is
-- told, and the move of a version 1 table. A league is told of its own entries alone. Assumes nothing.
use Rattle.std.specs.Prelude.{ℕ, ◌+◌, ◌*◌, ◌%◌, Bool, true, ◌&&◌, ◌||◌, List, [], ◌∷◌, map, leb, ltb, ℤ, length}
use Rattle.rules.specs.Words.{within}
use Rattle.rules.specs.Refusals.{Answer, Gives, ◌then◌, demand}
use Rattle.rules.specs.Book.{head_size, pick}
use Rattle.requests.specs.Entries.{some, keep, standing}
use Rattle.requests.specs.FieldTable.{TableFormat, entry_size, table1, bad_entry, table_full, key_in, is_key, Declared, declared_by, entry_for, entries, declare_in, remove_in, table_buffer, game_kind, Looked, look_by}

-- "Table version 2": entries of four bytes, the key being three; "9 counts fours up to 8,193", so 2,048 of them
abbrev pub table2 : TableFormat
table2 = record { key_size = 3; most = 2048; version = 2 }

-- ---- leagues and their keys

-- "a league byte, 1 or 2", in table or call
abbrev pub is_league : ℕ → Bool
is_league league = within 1 2 league

-- "field number (1 to 65,535)": a key of #101
abbrev pub is_field : ℕ → Bool
is_field field = is_key table1.key_size field

-- "before the field number": so entries "ascend by league, then field"
abbrev pub key_for : ℕ → ℕ → ℕ
key_for league field = league * 65536 + field

abbrev pub field_of : ℕ → ℕ
field_of key = key % 65536

-- the keys of a league: all its fields
abbrev pub own_key : ℕ → ℕ → Bool
own_key league key = within (key_for league 1) (key_for league 65535) key

-- those of the two leagues
abbrev pub league_key : ℕ → Bool
league_key key = own_key 1 key || own_key 2 key

-- ---- the entries

-- one league's
abbrev pub own : ℕ → List (List ℕ) → List (List ℕ)
own league rs = keep (key_in 3) (own_key league) rs

-- whether each is a league's
unfoldable pub all_owned : List (List ℕ) → Bool
all_owned [] = true
all_owned (r ∷ rs) = league_key (key_in 3 r) && all_owned rs

-- "each league has at most 1,024"
abbrev pub share_most : ℕ
share_most = 1024

abbrev pub within_shares : List (List ℕ) → Bool
within_shares rs = leb (length (own 1 rs)) share_most && leb (length (own 2 rs)) share_most

-- "14 also for a league byte other than 1 or 2, or a table with over 1,024 of one league"
unfoldable pub shared_entries : List ℕ → Answer (List (List ℕ))
shared_entries s = entries table2 s then λ rs. demand (all_owned rs && within_shares rs) bad_entry (Gives rs)

-- ---- what a league is told: its own entries

-- of an answer's entries
unfoldable pub own_of : ℕ → Answer (List (List ℕ)) → Answer (List (List ℕ))
own_of league x = x then λ rs. Gives (own league rs)

-- those of a table; the table's own refusals come first, then 14 for the call's league
unfoldable pub own_entries : List ℕ → ℕ → Answer (List (List ℕ))
own_entries s league = shared_entries s then λ rs. demand (is_league league) bad_entry (Gives (own league rs))

-- what an entry declares, without its league
abbrev pub own_declared : Declared → Declared
own_declared d = record { key = field_of d.key; kind = d.kind }

-- what the entry at a place from 0 among one's own declares, or 13
unfoldable pub own_entry_at : List ℕ → ℕ → ℕ → Answer Declared
own_entry_at s league place = own_entries s league then λ rs. pick rs place then declared_by 3 then λ d. Gives (own_declared d)

-- ---- declare and remove

-- the league and the field of a call, or 14
abbrev pub called : {A : Type 0} → ℕ → ℕ → Answer A → Answer A
called league field next = demand (is_league league && is_field field) bad_entry next

-- "15 now at 1,024 of one's own": for a new field; "or a short buffer", as in #101
unfoldable pub declare_own : List ℕ → ℕ → List (List ℕ) → List ℕ → Answer (List (List ℕ))
declare_own s league rs r =
    demand (some (standing (key_in 3) (key_in 3 r) rs) || ltb (length (own league rs)) share_most) table_full (declare_in table2 s rs r)

-- the entries of both leagues after a declaration of one's own, and after a removal
unfoldable pub own_declaration : List ℕ → ℕ → ℕ → ℕ → Answer (List (List ℕ))
own_declaration s league field code =
    shared_entries s then λ rs. called league field (entry_for 3 (key_for league field) code) then declare_own s league rs

unfoldable pub own_removal : List ℕ → ℕ → ℕ → Answer (List (List ℕ))
own_removal s league field = shared_entries s then λ rs. called league field (remove_in 3 (key_for league field) rs)

-- the buffer then; "A removal zeroes the four bytes freed"
abbrev pub own_declare_buffer : List ℕ → ℕ → ℕ → ℕ → List ℕ
own_declare_buffer s league field code = table_buffer table2 0 (own_declaration s league field code) s

abbrev pub own_remove_buffer : List ℕ → ℕ → ℕ → List ℕ
own_remove_buffer s league field = table_buffer table2 (entry_size table2) (own_removal s league field) s

-- ---- look up

unfoldable pub own_lookup : List ℕ → ℕ → ℕ → ℕ → ℤ → Answer Looked
own_lookup s league field game z =
    shared_entries s then λ rs. called league field (game_kind game) then λ k.
    look_by 3 (standing (key_in 3) (key_for league field) rs) k z

-- ---- the move

-- "as a table of league 1 alone"
abbrev pub of_first : List ℕ → List ℕ
of_first r = 1 ∷ r

-- "A version 1 table of at most 1,024 entries moves into a second buffer": 15 "in a move, over 1,024", "or a short buffer"
unfoldable pub moved_entries : List ℕ → List ℕ → Answer (List (List ℕ))
moved_entries s t =
    entries table1 s then λ rs.
    demand (leb (length rs) share_most && leb (head_size + length rs * entry_size table2) (length t)) table_full (Gives (map of_first rs))

abbrev pub moved_buffer : List ℕ → List ℕ → List ℕ
moved_buffer s t = table_buffer table2 0 (moved_entries s t) t
