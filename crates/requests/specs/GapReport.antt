-- Document 02, #108: the report of a book, line by line, and what the program prints. Assumes nothing.
use Rattle.std.specs.Prelude.{ℕ, cond, List, [], ◌∷◌, ◌++◌, map, ℤ, length}
use Rattle.rules.specs.Words.{bytes}
use Rattle.rules.specs.Refusals.{Answer, Gives, Refused, RefusedAt, ◌then◌}
use Rattle.rules.specs.Kinds.{Kind, kR, kD, kH, kU, kE, kV}
use Rattle.rules.specs.Days.{counts_days}
use Rattle.rules.specs.Spelling.{decimal, plain_year, dotted}
use Rattle.rules.specs.Book.{Format, records}
use Rattle.rules.specs.Listing.{letter, line_end, joined}
use Rattle.requests.specs.Second.{FieldEntry}
use Rattle.requests.specs.Both.{both}
use Rattle.requests.specs.Gaps.{Placed, placed_from, dates, earliest, latest, numbered, Step, longest, steps_sum}

-- ---- a line

-- "single spaces": what follows another
abbrev pub spaced : List ℕ → List ℕ
spaced text = bytes " " ++ text

-- a signed number in decimal: as a year is written, unpadded
abbrev pub signed : ℤ → List ℕ
signed z = plain_year z

-- "then step, place, sum"
abbrev pub step_text : Step → ℤ → List ℕ
step_text step sum = spaced (decimal step.long) ++ spaced (decimal step.place) ++ spaced (signed sum)

abbrev pub steps_text : Placed → List Placed → List ℕ
steps_text p ps = step_text (longest (numbered p) (map numbered ps)) (steps_sum p.date (dates ps))

-- "letter, count, dotted earliest and latest", and for D, E and V the steps. "A kind with no record prints its letter and 0"
unfoldable pub kind_text : Kind → List Placed → List ℕ
kind_text k [] = letter k ∷ spaced (decimal 0)
kind_text k (p ∷ ps) =
    letter k ∷ spaced (decimal (length (p ∷ ps))) ++ spaced (dotted k (earliest p.date (dates ps)))
    ++ spaced (dotted k (latest p.date (dates ps))) ++ cond (counts_days k) (steps_text p ps) []

unfoldable pub kind_line : Kind → List Placed → List ℕ
kind_line k ps = kind_text k ps ++ line_end

-- ---- the report

-- "One line per kind in code order"
abbrev pub in_code_order : List Kind
in_code_order = kR ∷ kD ∷ kH ∷ kU ∷ kE ∷ kV ∷ []

-- what is told of each kind, over its records
abbrev pub of_each_kind : {A : Type 0} → (Kind → List Placed → List A) → Format FieldEntry → List (List ℕ) → List (List A)
of_each_kind tell format rs = map (λ k. tell k (placed_from format k 0 rs)) in_code_order

unfoldable pub report_text : Format FieldEntry → List (List ℕ) → List ℕ
report_text format rs = joined (of_each_kind kind_line format rs)

-- "Over a version 1 or 2 book"; "Refusals: 9, 10, 11 as for the book"
unfoldable pub report : List ℕ → Answer (List ℕ)
report s = records (both s) s then λ rs. Gives (report_text (both s) rs)

-- room that is enough for every report: three lines of R, H and U, at most 39 bytes each, and three of D, E and V, at most 63
abbrev pub report_room : ℕ
report_room = 306

-- "A refused book prints only the word refused, the number and 11's place"
unfoldable pub printed : Answer (List ℕ) → List ℕ
printed (Gives text) = text
printed (Refused n) = bytes "refused" ++ spaced (decimal n) ++ line_end
printed (RefusedAt n place) = bytes "refused" ++ spaced (decimal n) ++ spaced (decimal place) ++ line_end
