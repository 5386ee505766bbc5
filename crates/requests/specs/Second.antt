-- Document 02, #107: "Version byte 2 has records of seven bytes". Assumes nothing.
use Rattle.std.specs.Prelude.{ℕ, ◌+◌, List, ◌∷◌, ◌++◌, leb, get_or, take, drop}
use Rattle.rules.specs.Words.{big_endian, big_bytes}
use Rattle.rules.specs.Refusals.{Answer, Gives, ◌then◌, demand, not_of_kind}
use Rattle.rules.specs.Kinds.{Kind, Stored, handed, of_date}
use Rattle.rules.specs.Book.{Format, kind_code, kind_of_code, twos_complement, year_of_twos}

-- "kind, field number (big-endian, 0 for none), year, packed word with mark"
pub record FieldEntry : Type 0 where
  pub kind : Kind
  pub field : ℕ
  -- as it is stored: with its mark
  pub date : Stored

-- "0 for none"
abbrev pub no_field : ℕ
no_field = 0

-- what two bytes hold: the greatest field number
abbrev pub most_field : ℕ
most_field = 65535

-- a date's four bytes from a place of a record on: its year, two's complement, and its word
abbrev pub stored_from : ℕ → List ℕ → Stored
stored_from at r = record { year = year_of_twos (big_endian (take 2 (drop at r))); word = big_endian (take 2 (drop (at + 2) r)) }

-- the field number and the date of a record's bytes
abbrev pub field_in : List ℕ → ℕ
field_in r = big_endian (take 2 (drop 1 r))

abbrev pub date_in : List ℕ → Stored
date_in r = stored_from 3 r

-- what a record is, or why it is none. A date's mark is 0 or 1, as of every date handed in
unfoldable pub field_entry_of : List ℕ → Answer FieldEntry
field_entry_of r =
    kind_of_code (get_or r 0 0) then λ k.
    handed k (date_in r) then λ f.
    Gives (record { kind = k; field = field_in r; date = date_in r })

-- "Version byte 2"; "records of seven bytes"; "At most 4,096 records": "9 counts sevens up to 28,673 and append's 12 needs seven bytes"
abbrev pub version2 : Format FieldEntry
version2 = record { frame = record { size = 7; most = 4096; version = 2 }; entry = field_entry_of }

-- the bytes of a record
unfoldable pub field_entry_bytes : Kind → ℕ → Stored → List ℕ
field_entry_bytes k field d =
    kind_code k ∷ big_bytes 2 field ++ big_bytes 2 (twos_complement d.year) ++ big_bytes 2 d.word

-- the record of a date handed in, by its kind's code, with its field number, or 4. A number that two bytes do not hold is no field's; any
-- that they hold goes with any kind
unfoldable pub field_entry_for : ℕ → ℕ → Stored → Answer (List ℕ)
field_entry_for code field d =
    kind_of_code code then λ k.
    demand (leb field most_field) not_of_kind
    (of_date k d (λ f. Gives (field_entry_bytes k field d)))
