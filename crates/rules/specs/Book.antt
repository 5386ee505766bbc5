-- Document 01, "The book": new, check, record at a place and append, over a frame and a format; then version 1. Assumes nothing.
use Rattle.std.specs.Prelude.{ℕ, zero, suc, ◌+◌, ◌*◌, ◌-◌, ◌/◌, ◌%◌, Bool, cond, ◌&&◌, List, [], ◌∷◌, ◌++◌, leb, ltb, eqb, ℤ, pos, negsuc, ◌-ℤ◌, length, get_or, take, drop}
use Rattle.rules.specs.Words.{within, big_endian, big_bytes}
use Rattle.rules.specs.Refusals.{Answer, Gives, Refused, RefusedAt, ◌then◌, demand, given, not_of_kind, bad_length, bad_version, bad_record, no_room, no_record, guessed_date}
use Rattle.rules.specs.Kinds.{Kind, kR, kD, kH, kU, kE, kV, kind_by, Fields, Stored, mark_of, no_mark, handed, of_date}

-- ---- the frame and the format

-- what the length, the version byte and the cut into records (in a frame: pieces) depend on
pub record Frame : Type 0 where
  -- the bytes of a record
  pub size : ℕ
  -- the most records
  pub most : ℕ
  -- the version byte
  pub version : ℕ

-- a book's frame, and what a record of it is, or a refusal
pub record Format (A : Type 0) : Type 0 where
  pub frame : Frame
  pub entry : List ℕ → Answer A

-- whether bytes are a record of the format: 11 is for those that are not
abbrev pub sound_by : {A : Type 0} → Format A → List ℕ → Bool
sound_by format r = given (format.entry r)

-- "Four bytes of length (big-endian, counting what follows), version byte 1, records"
abbrev pub length_size : ℕ
length_size = 4

abbrev pub head_size : ℕ
head_size = length_size + 1

-- the length that a book says of itself
unfoldable pub length_said : List ℕ → ℕ
length_said s = big_endian (take length_size s)

abbrev pub version_of : List ℕ → ℕ
version_of s = get_or s length_size 0

-- n pieces of k bytes each
unfoldable pub pieces : ℕ → ℕ → List ℕ → List (List ℕ)
pieces zero k s = []
pieces (suc n) k s = take k s ∷ pieces n k (drop k s)

-- the pieces that stand after the length and the version byte, where the length says L
abbrev pub pieces_at : Frame → List ℕ → ℕ → List (List ℕ)
pieces_at frame s L = pieces ((L - 1) / frame.size) frame.size (drop head_size s)

-- the most that the length may say: the version byte and the most records; 20,481 for version 1
abbrev pub length_limit : Frame → ℕ
length_limit frame = 1 + frame.most * frame.size

-- the pieces of a frame: "9 but for its last case, 10, that case"
unfoldable pub framed : Frame → List ℕ → Answer (List (List ℕ))
framed frame s =
    demand (leb head_size (length s)) bad_length
    (demand (within 1 (length_limit frame) (length_said s)) bad_length
    (demand (leb (length_said s + length_size) (length s)) bad_length
    (demand (eqb (version_of s) frame.version) bad_version
    (demand (eqb ((length_said s - 1) % frame.size) 0) bad_length
    (Gives (pieces_at frame s (length_said s)))))))

-- the place of the first record that is not sound, from 0; where there is none, their number
unfoldable pub first_bad : (List ℕ → Bool) → List (List ℕ) → ℕ
first_bad sound [] = 0
first_bad sound (r ∷ rs) = cond (sound r) (suc (first_bad sound rs)) 0

-- the refusal n with the place of the first that fails the test, or all of them
unfoldable pub all_pass : ℕ → (List ℕ → Bool) → List (List ℕ) → Answer (List (List ℕ))
all_pass n test rs = cond (ltb (first_bad test rs) (length rs)) (RefusedAt n (first_bad test rs)) (Gives rs)

-- the records of a book: the pieces of its frame, then 11
unfoldable pub records : {A : Type 0} → Format A → List ℕ → Answer (List (List ℕ))
records format s = framed format.frame s then all_pass bad_record (sound_by format)

-- ---- the operations

-- "check (gives the number of records)"
unfoldable pub check : {A : Type 0} → Format A → List ℕ → Answer ℕ
check format s = records format s then λ rs. Gives (length rs)

-- the record at a place from 0, or 13
unfoldable pub pick : List (List ℕ) → ℕ → Answer (List ℕ)
pick [] place = Refused no_record
pick (r ∷ rs) zero = Gives r
pick (r ∷ rs) (suc place) = pick rs place

unfoldable pub record_at : {A : Type 0} → Format A → List ℕ → ℕ → Answer (List ℕ)
record_at format s place = records format s then λ rs. pick rs place

-- "record at a place from 0 (gives its kind and date)": what the format says that it is
unfoldable pub entry_at : {A : Type 0} → Format A → List ℕ → ℕ → Answer A
entry_at format s place = record_at format s place then format.entry

-- the place of one record more where n stand, or 12
abbrev pub place_after : Frame → List ℕ → ℕ → Answer ℕ
place_after frame s n = demand (ltb n frame.most && leb (length_said s + length_size + frame.size) (length s)) no_room (Gives n)

-- #106 of document 02: "20 when a guessed date is appended to a version 1 book, after 12": its record is none of that format
abbrev pub taken_by : {A : Type 0} → Format A → List ℕ → ℕ → Answer ℕ
taken_by format r place = demand (sound_by format r) guessed_date (Gives place)

-- "append (gives the new record's place)", of a record's bytes, or of a refusal that comes before the book's
unfoldable pub append_answer : {A : Type 0} → Format A → Answer (List ℕ) → List ℕ → Answer ℕ
append_answer format entry s = entry then λ r. check format s then place_after format.frame s then taken_by format r

-- the buffer after it: the length counts the record, what followed the length stays, and the record fills the bytes after
unfoldable pub appended : Frame → List ℕ → List ℕ → List ℕ
appended frame r s =
    big_bytes length_size (length_said s + frame.size) ++ take (length_said s) (drop length_size s) ++ r
    ++ drop (length_said s + length_size + frame.size) s

unfoldable pub append_buffer : {A : Type 0} → Format A → Answer (List ℕ) → List ℕ → List ℕ
append_buffer format (Gives r) s = cond (given (append_answer format (Gives r) s)) (appended format.frame r s) s
append_buffer format (Refused n) s = s
append_buffer format (RefusedAt n place) s = s

-- "new (writes an empty book)": it has no record
unfoldable pub new_answer : List ℕ → Answer ℕ
new_answer s = demand (leb head_size (length s)) no_room (Gives 0)

-- the buffer after it, of that version: the length counts the version byte alone, and what follows that byte stays
unfoldable pub new_buffer : ℕ → List ℕ → List ℕ
new_buffer version s = cond (given (new_answer s)) (big_bytes length_size 1 ++ version ∷ [] ++ drop head_size s) s

-- ---- version 1

-- "kind (R 1, D 2, H 3, U 4, E 5, V 6)"
abbrev pub kind_code : Kind → ℕ
kind_code kR = 1
kind_code kD = 2
kind_code kH = 3
kind_code kU = 4
kind_code kE = 5
kind_code kV = 6

-- the kind of a code, or 4
unfoldable pub kind_of_code : ℕ → Answer Kind
kind_of_code code = kind_by kind_code not_of_kind code

-- a year in 16 bits, two's complement, and back
abbrev pub twos_complement : ℤ → ℕ
twos_complement (pos n) = n
twos_complement (negsuc n) = 65536 - suc n

unfoldable pub year_of_twos : ℕ → ℤ
year_of_twos n = cond (ltb n 32768) (pos n) (pos n -ℤ pos 65536)

-- "records of five bytes: kind .., year (two's complement, big-endian), packed word (big-endian)"
unfoldable pub entry_bytes : Kind → Stored → List ℕ
entry_bytes k d = kind_code k ∷ big_bytes 2 (twos_complement d.year) ++ big_bytes 2 d.word

-- "gives its kind and date"
pub record Entry : Type 0 where
  pub kind : Kind
  pub date : Fields

-- #106 of document 02: "11 for any mark in one": the date of a version 1 book's record has none
abbrev pub unmarked_date : Kind → Stored → Answer Fields
unmarked_date k d = demand (eqb (mark_of d.word) no_mark) not_of_kind (handed k d)

-- its kind's code in the first byte; the date's four bytes, year and word, from a place of the record on
unfoldable pub entry_from : ℕ → List ℕ → Answer Entry
entry_from at r =
    kind_of_code (get_or r 0 0) then λ k.
    unmarked_date k (record { year = year_of_twos (big_endian (take 2 (drop at r))); word = big_endian (take 2 (drop (at + 2) r)) }) then λ f.
    Gives (record { kind = k; date = f })

-- the date follows the kind
abbrev pub entry_of : List ℕ → Answer Entry
entry_of = entry_from 1

-- "version byte 1, records of five bytes"; "At most 4,096 records"; 11 is "a record that no date of its kind has"
abbrev pub version1 : Format Entry
version1 = record { frame = record { size = 5; most = 4096; version = 1 }; entry = entry_of }

-- the record of a date handed in, by its kind's code; its word is as it was handed in, with its mark
unfoldable pub entry_for : ℕ → Stored → Answer (List ℕ)
entry_for code d = kind_of_code code then λ k. of_date k d (λ f. Gives (entry_bytes k d))
