-- What crosses to C of a field table: an entry, a lookup, and the lookups of many numbers in one call. Assumes nothing.
use Rattle.std.specs.Prelude.{ℕ, ◌*◌, ◌/◌, Bool, true, false, List, [], ◌∷◌, ◌++◌, ℤ, pos, length, get_or, drop}
use Rattle.rules.specs.Refusals.{Answer, Gives, Refused, RefusedAt, ◌then◌}
use Rattle.rules.specs.Book.{kind_code}
use Rattle.requests.specs.FieldTable.{table1, game_kind, Declared, check, lookup}
use Rattle.requests.specs.Fours.{fours, least}
use Rattle.codes.specs.Views.{date_number}
use Rattle.field_table.specs.Views.{Bits, in_bits}
use Rattle.pennyquill.specs.declared.PqRecord.{PqRecord}
use Rattle.pennyquill.specs.declared.PqLookup.{PqLookup}

-- "gives the entry at a place from 0 (kind, field; value 0)"
abbrev pub entry_crossed : Answer Declared → PqRecord
entry_crossed (Gives d) = record { refusal = 0; kind = kind_code d.kind; value = 0; field = d.key }
entry_crossed (Refused n) = record { refusal = n; kind = 0; value = 0; field = 0 }
entry_crossed (RefusedAt n place) = record { refusal = n; kind = 0; value = place; field = 0 }

-- "guessed (0 or 1)"
abbrev pub guessed_number : Bool → ℕ
guessed_number true = 1
guessed_number false = 0

-- "refusal, kind, value (the date), guessed ..; at a refusal the others are 0"
abbrev pub lookup_crossed : Answer Bits → PqLookup
lookup_crossed (Gives l) = record { refusal = 0; kind = kind_code l.kind; value = date_number l.date; guessed = guessed_number l.guessed }
lookup_crossed (Refused n) = record { refusal = n; kind = 0; value = 0; guessed = 0 }
lookup_crossed (RefusedAt n place) = record { refusal = n; kind = 0; value = 0; guessed = 0 }

-- ---- many numbers in one call

-- a lookup as four numbers
abbrev pub four : PqLookup → List ℕ
four l = l.refusal ∷ l.kind ∷ l.value ∷ l.guessed ∷ []

-- the answer to question i: what a lookup by itself gives, as four numbers
abbrev pub answer_to : List ℕ → ℕ → List ℕ → List ℤ → ℕ → List ℕ
answer_to table game fields numbers i = four (lookup_crossed (in_bits (lookup table1 table (get_or fields i 0) game (get_or numbers i (pos 0)))))

-- how many questions are answered: as many as there are fields, numbers and fours to answer them in, up to what 32 bits hold
abbrev pub asked : List ℕ → List ℤ → List ℕ → ℕ
asked fields numbers out = least (least (length fields) (length numbers)) (least (length out / 4) 4294967295)

-- the whole call: the table's refusals, then 14 for the game kind, or how many were answered
unfoldable pub lookups : List ℕ → ℕ → List ℕ → List ℤ → List ℕ → Answer ℕ
lookups table game fields numbers out = check table1 table then λ n. game_kind game then λ k. Gives (asked fields numbers out)

-- the answers after it, in place of the first numbers; at a refusal nothing is written
abbrev pub answered : Answer ℕ → List ℕ → ℕ → List ℕ → List ℤ → List ℕ → List ℕ
answered (Gives n) table game fields numbers out = fours (answer_to table game fields numbers) n ++ drop (n * 4) out
answered (Refused m) table game fields numbers out = out
answered (RefusedAt m place) table game fields numbers out = out
