-- The format of a book from the size of its records, and the code's answers as those of `rules`. Assumes nothing.
use Rattle.std.specs.Prelude.{ℕ, ◌+◌, ◌*◌, ◌-◌, Bool, cond, not, ◌&&◌, ◌||◌, List, leb, eqb, get_or, Option, Result}
use Rattle.rules.specs.Refusals.{Answer, Gives, ◌then◌, demand, given, not_of_kind}
use Rattle.rules.specs.Kinds as K
use Rattle.rules.specs.Book as B
use Rattle.requests.specs.Second.{FieldEntry, no_field, stored_from, field_in}
use Rattle.requests.specs.Both.{fieldless, retold}
use Rattle.kinds.specs.declared.Kind.{Kind}
use Rattle.kinds.specs.declared.Packed.{Packed}
use Rattle.kinds.specs.Views.{kind_of, bits_of}
use Rattle.frame.specs.Views.{frame_of}
use Rattle.refusals.specs.declared.Refusal.{Refusal}
use Rattle.refusals.specs.Answers.{result_as, option_as}
use Rattle.book.specs.declared.Record.{Record}

-- the bytes of a date: two of its year, two of its word
abbrev pub date_size : ℕ
date_size = 4

-- the bytes of a record at least: its kind's and its date's
abbrev pub least_size : ℕ
least_size = 1 + date_size

-- the bytes of a record at least that has a field number too
abbrev pub field_record_size : ℕ
field_record_size = least_size + 2

-- whether a book may have a record with that field number and that date's mark: a plain one has neither
abbrev pub kept_by : Bool → ℕ → K.Stored → Bool
kept_by plain field d = not plain || (eqb field no_field && eqb (K.mark_of d.word) K.no_mark)

-- what a record is, by its kind's code, its field number and its date
unfoldable pub entry_with : Bool → ℕ → ℕ → K.Stored → Answer FieldEntry
entry_with plain code field d =
    B.kind_of_code code then λ k.
    demand (kept_by plain field d) not_of_kind (K.handed k d) then λ f.
    Gives (record { kind = k; field = field; date = d })

-- the field number of a record of so many bytes: the two after the kind's, or none where there are no two between that and the date
abbrev pub field_sized : ℕ → List ℕ → ℕ
field_sized size r = cond (leb field_record_size size) (field_in r) no_field

-- what a record of so many bytes is: the kind's code in its first byte, the date in its last four
abbrev pub entry_sized : ℕ → Bool → List ℕ → Answer FieldEntry
entry_sized size plain r = entry_with plain (get_or r 0 0) (field_sized size r) (stored_from (size - date_size) r)

abbrev pub sound_sized : ℕ → Bool → List ℕ → Bool
sound_sized size plain r = given (entry_sized size plain r)

-- records of so many bytes, at most so many of them, of that version, plain or not: version 1 is this at 5, 4096, 1 and true, its records
-- told as those of version 2, which is this at 7, 4096, 2 and false
abbrev pub book_of : ℕ → ℕ → ℕ → Bool → B.Format FieldEntry
book_of size most version plain = record { frame = frame_of size most version; entry = entry_sized size plain }

-- a record of version 1 as its bits: it has no field number, and its date no mark
abbrev pub in_bits : Answer B.Entry → Answer FieldEntry
in_bits a = retold fieldless a

-- a date from its four bytes
abbrev pub stored_by : ℕ → ℕ → ℕ → ℕ → K.Stored
stored_by y₁ y₀ w₁ w₀ = record { year = B.year_of_twos (y₁ * 256 + y₀); word = w₁ * 256 + w₀ }

-- the five bytes of a date's record, from its bits
abbrev pub bytes_of : Kind → Packed → List ℕ
bytes_of k d = B.entry_bytes (kind_of k) (bits_of d)

-- a record by its kind, its field number and the bits of its date
abbrev pub record_as : Record → FieldEntry
record_as r = record { kind = kind_of r.kind; field = r.field; date = bits_of r.date }

abbrev pub slot_as : Option Record → Answer FieldEntry
slot_as = option_as not_of_kind record_as

abbrev pub checked_as : Result ℕ Refusal → Answer ℕ
checked_as = result_as (λ n. n)

abbrev pub found_as : Result Record Refusal → Answer FieldEntry
found_as = result_as record_as

abbrev pub appended_as : Result ℕ Refusal → Answer ℕ
appended_as = result_as (λ n. n)
