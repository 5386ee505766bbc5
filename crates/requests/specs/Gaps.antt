-- Document 02, #108: "for each kind: count, earliest and latest date", and "For D, E and V also: the longest step in days .. and the sum of
-- all signed steps". Assumes nothing.
use Rattle.std.specs.Prelude.{ℕ, suc, Bool, cond, List, [], ◌∷◌, map, leb, eqb, ℤ, pos, nat_abs, ◌+ℤ◌, ◌-ℤ◌}
use Rattle.rules.specs.Refusals.{Answer, Gives, Refused, RefusedAt}
use Rattle.rules.specs.Kinds.{Kind, Fields, unpacked}
use Rattle.rules.specs.Days.{day_number, Order, Before, Same, After, order}
use Rattle.rules.specs.Book.{Format, kind_code}
use Rattle.requests.specs.Entries.{kept_if}
use Rattle.requests.specs.Second.{FieldEntry}

-- ---- the records of a kind

-- a record's place in the book, from 0, and its date: by its fields, among which there is no mark
pub record Placed : Type 0 where
  pub place : ℕ
  pub date : Fields

abbrev pub same_kind : Kind → Kind → Bool
same_kind k j = eqb (kind_code k) (kind_code j)

-- a record at a place, before the later ones of the kind, if it is one
abbrev pub if_of_kind : Kind → ℕ → Answer FieldEntry → List Placed → List Placed
if_of_kind k place (Gives e) later = kept_if (same_kind k e.kind) (record { place = place; date = unpacked e.date }) later
if_of_kind k place (Refused n) later = later
if_of_kind k place (RefusedAt n bad) later = later

-- those of the kind among the records from a place on, in the book's order
unfoldable pub placed_from : Format FieldEntry → Kind → ℕ → List (List ℕ) → List Placed
placed_from format k place [] = []
placed_from format k place (r ∷ rs) = if_of_kind k place (format.entry r) (placed_from format k (suc place) rs)

abbrev pub dates : List Placed → List Fields
dates ps = map (λ (p : Placed). p.date) ps

-- ---- "earliest and latest date": by the order of dates, of f and those after it

-- the second where it says After, else the first
abbrev pub chosen : Order → Fields → Fields → Fields
chosen Before f g = f
chosen Same f g = f
chosen After f g = g

unfoldable pub earlier : Fields → Fields → Fields
earlier f g = chosen (order f g) f g

unfoldable pub later : Fields → Fields → Fields
later f g = chosen (order g f) f g

unfoldable pub earliest : Fields → List Fields → Fields
earliest f [] = f
earliest f (g ∷ gs) = earliest (earlier f g) gs

unfoldable pub latest : Fields → List Fields → Fields
latest f [] = f
latest f (g ∷ gs) = latest (later f g) gs

-- ---- "the longest step in days"

-- a record's place, and its day number: "E and V differences ignore hours"
pub record Numbered : Type 0 where
  pub place : ℕ
  pub number : ℤ

abbrev pub numbered : Placed → Numbered
numbered p = record { place = p.place; number = day_number p.date }

-- how long a step is, and the place of the record that stands first in the book
pub record Step : Type 0 where
  pub long : ℕ
  pub place : ℕ

-- "absolute difference between one record and the next of that kind, with the place of the earlier record"
abbrev pub step_to : Numbered → Numbered → Step
step_to a b = record { long = nat_abs (b.number -ℤ a.number); place = a.place }

-- the longer of two steps; where they are equal the first, as the place is that "where it first occurs"
unfoldable pub longer : Step → Step → Step
longer s t = cond (leb t.long s.long) s t

-- of the steps from each to the next; "with one, step 0 .., place that record"
unfoldable pub longest : Numbered → List Numbered → Step
longest a [] = record { long = 0; place = a.place }
longest a (b ∷ bs) = longer (step_to a b) (longest b bs)

-- ---- "the sum of all signed steps"

-- the steps from a number to the next, and so on
unfoldable pub steps_from : ℤ → List ℤ → ℤ
steps_from a [] = pos 0
steps_from a (b ∷ bs) = (b -ℤ a) +ℤ steps_from b bs

-- in days, of f and those after it
abbrev pub steps_sum : Fields → List Fields → ℤ
steps_sum f fs = steps_from (day_number f) (map day_number fs)

-- the last of f and those after it
unfoldable pub last_of : {A : Type 0} → A → List A → A
last_of x [] = x
last_of x (y ∷ ys) = last_of y ys
