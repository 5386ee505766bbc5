-- Document 02, #101, "Field table": new, check, the entry at a place, declare, remove and look up, over the table's format, so that a
-- longer key is another format. Assumes nothing.
use Rattle.std.specs.Prelude.{ℕ, suc, ◌+◌, ◌*◌, ◌-◌, ◌^◌, Bool, true, false, ◌&&◌, ◌||◌, List, [], ◌∷◌, ◌++◌, leb, ltb, ℤ, length, get_or, take, drop, replicate}
use Rattle.rules.specs.Words.{within, big_endian, big_bytes}
use Rattle.rules.specs.Refusals.{Answer, Gives, Refused, RefusedAt, ◌then◌, demand, given}
use Rattle.rules.specs.Kinds.{Kind, kind_by, Fields, Stored, no_mark, guessed_mark, stored_with}
use Rattle.rules.specs.Numbers.{reads_numbers, read_number, guesses, guess_number}
use Rattle.rules.specs.Book.{Frame, head_size, framed, pick, new_answer, new_buffer, kind_code}
use Rattle.requests.specs.Entries.{some, ascends, standing, declare, remove}
use Rattle.requests.specs.Laid.{laid}

-- ---- refusals: those of a table, after "9 and 10 as for books"

-- "14 entries out of order, field 0 or a code not allowed, in table or call"
abbrev pub bad_entry : ℕ
bad_entry = 14

-- "15 full table or no three bytes left, for a new field"
abbrev pub table_full : ℕ
table_full = 15

-- "16 removing an absent field"
abbrev pub not_there : ℕ
not_there = 16

-- ---- the format

-- "four-byte big-endian length, version byte 1, entries of three bytes"
pub record TableFormat : Type 0 where
  -- the bytes of a key, which is what the entries ascend by
  pub key_size : ℕ
  -- the most entries
  pub most : ℕ
  -- the version byte
  pub version : ℕ

-- an entry is its key and a byte more, the kind's code
abbrev pub entry_size : TableFormat → ℕ
entry_size table = table.key_size + 1

abbrev pub table_frame : TableFormat → Frame
table_frame table = record { size = entry_size table; most = table.most; version = table.version }

-- "version byte 1, entries of three bytes (field number, big-endian, then kind code ..)", "at most 2,048"; the key is the field number
abbrev pub table1 : TableFormat
table1 = record { key_size = 2; most = 2048; version = 1 }

-- ---- one entry, over the bytes of its key

-- the key of an entry's bytes, and the code after it
unfoldable pub key_in : ℕ → List ℕ → ℕ
key_in key_size r = big_endian (take key_size r)

unfoldable pub code_in : ℕ → List ℕ → ℕ
code_in key_size r = get_or r key_size 0

-- "field number (1 to 65,535)": every number above 0 that so many bytes hold
abbrev pub is_key : ℕ → ℕ → Bool
is_key key_size key = within 1 (256 ^ key_size - 1) key

-- the kind of a code, if it is one of those that are allowed, or 14
unfoldable pub kind_among : (Kind → Bool) → ℕ → Answer Kind
kind_among allowed code = kind_by kind_code bad_entry code then λ k. demand (allowed k) bad_entry (Gives k)

-- "kind code 1, 2, 3, 5 or 6": of the kinds that read numbers; "a game kind (2, 3, 5 or 6)": of those that guess
abbrev pub declared_kind : ℕ → Answer Kind
declared_kind code = kind_among reads_numbers code

abbrev pub game_kind : ℕ → Answer Kind
game_kind code = kind_among guesses code

-- what a key and a code declare, in a table or in a call, or 14
pub record Declared : Type 0 where
  pub key : ℕ
  pub kind : Kind

unfoldable pub declaring : ℕ → ℕ → ℕ → Answer Declared
declaring key_size key code =
    demand (is_key key_size key) bad_entry (declared_kind code then λ k. Gives (record { key = key; kind = k }))

-- what an entry's bytes declare
unfoldable pub declared_by : ℕ → List ℕ → Answer Declared
declared_by key_size r = declaring key_size (key_in key_size r) (code_in key_size r)

-- the bytes of an entry
unfoldable pub entry_bytes : ℕ → Declared → List ℕ
entry_bytes key_size d = big_bytes key_size d.key ++ kind_code d.kind ∷ []

-- the entry of a call
unfoldable pub entry_for : ℕ → ℕ → ℕ → Answer (List ℕ)
entry_for key_size key code = declaring key_size key code then λ d. Gives (entry_bytes key_size d)

-- ---- the entries of a table

-- whether each of them declares a field
unfoldable pub all_declare : ℕ → List (List ℕ) → Bool
all_declare key_size [] = true
all_declare key_size (r ∷ rs) = given (declared_by key_size r) && all_declare key_size rs

-- and they stand in order
abbrev pub in_order : ℕ → List (List ℕ) → Bool
in_order key_size rs = all_declare key_size rs && ascends (key_in key_size) 0 rs

-- the entries of a table: "9 and 10 as for books", then 14, which has no place
unfoldable pub entries : TableFormat → List ℕ → Answer (List (List ℕ))
entries table s = framed (table_frame table) s then λ rs. demand (in_order table.key_size rs) bad_entry (Gives rs)

-- how many there are
unfoldable pub counted : Answer (List (List ℕ)) → Answer ℕ
counted a = a then λ rs. Gives (length rs)

abbrev pub check : TableFormat → List ℕ → Answer ℕ
check table s = counted (entries table s)

-- what the entry at a place from 0 declares, or 13
unfoldable pub entry_at : TableFormat → List ℕ → ℕ → Answer Declared
entry_at table s place = entries table s then λ rs. pick rs place then declared_by table.key_size

-- ---- declare and remove

-- one entry more is allowed, and the buffer has bytes for it
abbrev pub has_room : TableFormat → List (List ℕ) → List ℕ → Bool
has_room table rs s = ltb (length rs) table.most && leb (head_size + suc (length rs) * entry_size table) (length s)

-- the entries with one declared: "a field already there gets the new kind", and a new one needs room
unfoldable pub declare_in : TableFormat → List ℕ → List (List ℕ) → List ℕ → Answer (List (List ℕ))
declare_in table s rs r =
    let key = key_in table.key_size in
    demand (some (standing key (key r) rs) || has_room table rs s) table_full (Gives (declare key r rs))

-- the entries without one
unfoldable pub remove_in : ℕ → ℕ → List (List ℕ) → Answer (List (List ℕ))
remove_in key_size q rs =
    let key = key_in key_size in demand (some (standing key q rs)) not_there (Gives (remove key q rs))

-- the entries after a declaration, and after a removal
unfoldable pub declared : TableFormat → List ℕ → ℕ → ℕ → Answer (List (List ℕ))
declared table s key code = entries table s then λ rs. entry_for table.key_size key code then declare_in table s rs

unfoldable pub removed : TableFormat → List ℕ → ℕ → Answer (List (List ℕ))
removed table s key = entries table s then λ rs. demand (is_key table.key_size key) bad_entry (remove_in table.key_size key rs)

-- the buffer with these entries, so many bytes after them zeroed, and the later ones as they were; at a refusal it is as it was
unfoldable pub table_buffer : TableFormat → ℕ → Answer (List (List ℕ)) → List ℕ → List ℕ
table_buffer table freed (Gives rs) s =
    laid (table_frame table) rs ++ (replicate freed 0 ++ drop (head_size + length rs * entry_size table + freed) s)
table_buffer table freed (Refused n) s = s
table_buffer table freed (RefusedAt n place) s = s

abbrev pub declare_buffer : TableFormat → List ℕ → ℕ → ℕ → List ℕ
declare_buffer table s key code = table_buffer table 0 (declared table s key code) s

-- "removing closes up the entries, zeroes the three bytes freed"
abbrev pub remove_buffer : TableFormat → List ℕ → ℕ → List ℕ
remove_buffer table s key = table_buffer table (entry_size table) (removed table s key) s

-- ---- look up

-- a date, the kind that was used, and whether it was guessed
pub record Looked : Type 0 where
  pub kind : Kind
  pub date : Fields
  pub guessed : Bool

-- #106: "Guess readers set 1, all others 0"; the date as it is handed out
abbrev pub looked_mark : Bool → ℕ
looked_mark true = guessed_mark
looked_mark false = no_mark

abbrev pub looked_date : Looked → Stored
looked_date l = stored_with (looked_mark l.guessed) l.date

-- "the declared kind's full decoding"
abbrev pub decode : ℤ → Kind → Answer Looked
decode z k = read_number k z then λ f. Gives (record { kind = k; date = f; guessed = false })

-- "the game kind's guess"
abbrev pub guess : ℤ → Kind → Answer Looked
guess z k = guess_number k z then λ f. Gives (record { kind = k; date = f; guessed = true })

-- by the field's entry, or "if the field is absent"
unfoldable pub look_by : ℕ → List (List ℕ) → Kind → ℤ → Answer Looked
look_by key_size [] game z = guess z game
look_by key_size (r ∷ rs) game z = declared_by key_size r then λ d. decode z d.kind

-- the game kind of a call, or 14 for its key or for it
unfoldable pub game_for : ℕ → ℕ → ℕ → Answer Kind
game_for key_size key game = demand (is_key key_size key) bad_entry (game_kind game)

-- "A lookup with a number and a game kind"
unfoldable pub lookup : TableFormat → List ℕ → ℕ → ℕ → ℤ → Answer Looked
lookup table s key game z =
    entries table s then λ rs. game_for table.key_size key game then λ k.
    look_by table.key_size (standing (key_in table.key_size) key rs) k z
