-- The walk: one check of a book of either version, then many records, each as four numbers. Assumes nothing.
use Rattle.std.specs.Prelude.{ℕ, ◌+◌, ◌*◌, ◌-◌, ◌/◌, List, [], ◌∷◌, ◌++◌, drop}
use Rattle.rules.specs.Refusals.{Answer, Gives, Refused, RefusedAt, ◌then◌}
use Rattle.rules.specs.Book.{kind_code, check, entry_at}
use Rattle.requests.specs.Second.{FieldEntry}
use Rattle.requests.specs.Both.{both}
use Rattle.requests.specs.Fours.{fours, least}
use Rattle.codes.specs.Views.{date_number}

-- a record as four numbers: no refusal, its kind's code, its date, its field number
unfoldable pub numbers_of : Answer FieldEntry → List ℕ
numbers_of (Gives e) = 0 ∷ kind_code e.kind ∷ date_number e.date ∷ e.field ∷ []
numbers_of (Refused n) = n ∷ 0 ∷ 0 ∷ 0 ∷ []
numbers_of (RefusedAt n place) = n ∷ 0 ∷ 0 ∷ 0 ∷ []

-- those of the record i places after a place: what a call for that record by itself gives
abbrev pub numbers_from : List ℕ → ℕ → ℕ → List ℕ
numbers_from s place i = numbers_of (entry_at (both s) s (place + i))

-- how many records are told from a place on: as many as there are, and as there are whole fours; what refuses the book refuses the walk
unfoldable pub walked : List ℕ → ℕ → ℕ → Answer ℕ
walked s place room = check (both s) s then λ n. Gives (least (n - place) (room / 4))

-- the numbers after it, in place of the first ones; at a refusal nothing is written
unfoldable pub walked_over : Answer ℕ → List ℕ → ℕ → List ℕ → List ℕ
walked_over (Gives n) s place out = fours (numbers_from s place) n ++ drop (n * 4) out
walked_over (Refused n) s place out = out
walked_over (RefusedAt n bad) s place out = out
