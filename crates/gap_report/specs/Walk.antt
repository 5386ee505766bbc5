-- One walk over the records of a kind: what it keeps, and the line that is written from it. Assumes nothing.
use Rattle.std.specs.Prelude.{◌≡◌, ℕ, suc, true, cond, List, [], ◌∷◌, ◌++◌, eqb, ℤ, pos, ◌-ℤ◌}
use Rattle.std.proofs.Math.IntN.{sub_ℕ}
use Rattle.rules.specs.Refusals.{Answer, Gives, Refused, RefusedAt, given}
use Rattle.rules.specs.Kinds.{Kind, Fields, handed}
use Rattle.rules.specs.Days.{day_number, counts_days}
use Rattle.rules.specs.Spelling.{decimal, dotted}
use Rattle.rules.specs.Book.{records}
use Rattle.rules.specs.Listing.{letter, line_end}
use Rattle.requests.specs.Second.{FieldEntry}
use Rattle.requests.specs.Both.{both}
use Rattle.requests.specs.Gaps.{Placed, placed_from, earlier, later, Numbered, Step, step_to, longer}
use Rattle.requests.specs.GapReport.{spaced, step_text, kind_line}

-- ---- the records

-- what is given, or none
abbrev pub list_of : {A : Type 0} → Answer (List A) → List A
list_of (Gives rs) = rs
list_of (Refused n) = []
list_of (RefusedAt n place) = []

abbrev pub records_in : List ℕ → List (List ℕ)
records_in s = list_of (records (both s) s)

-- the records of a kind of a book of either version
abbrev pub of_book : Kind → List ℕ → List Placed
of_book k s = placed_from (both s) k 0 (records_in s)

-- the lines of two kinds, one after the other
abbrev pub two_lines : Kind → Kind → List ℕ → List ℕ
two_lines k j s = kind_line k (of_book k s) ++ kind_line j (of_book j s)

-- a record's date is one of its kind
abbrev pub Sound : Answer FieldEntry → Type 0
Sound (Gives e) = given (handed e.kind e.date) ≡ true
Sound (Refused n) = Unit {0}
Sound (RefusedAt n place) = Unit {0}

-- ---- the walk

-- what the records so far have told; nothing where the count is 0
pub record Tallied : Type 0 where
  pub count : ℕ
  pub earliest : Fields
  pub latest : Fields
  -- the first record's day number; the last record
  pub first : ℤ
  pub last : Numbered
  pub longest : Step

-- the day number of a date, 0 of one whose kind counts no days
abbrev pub number_for : Kind → Fields → ℤ
number_for k f = cond (counts_days k) (day_number f) (pos 0)

-- a day number, from how far it is from the least one, -11,960,684
abbrev pub number_at : ℕ → ℤ
number_at n = sub_ℕ n 11960684

abbrev pub numbered_for : Kind → Placed → Numbered
numbered_for k p = record { place = p.place; number = number_for k p.date }

abbrev pub no_date : Fields
no_date = record { year = pos 0; month = 0; day = 0; hour = 0 }

abbrev pub nothing : Tallied
nothing = record {
  count = 0;
  earliest = no_date;
  latest = no_date;
  first = pos 0;
  last = record { place = 0; number = pos 0 };
  longest = record { long = 0; place = 0 };
}

-- the first record; and one more
abbrev pub begun : Kind → Placed → Tallied
begun k p = record {
  count = 1;
  earliest = p.date;
  latest = p.date;
  first = number_for k p.date;
  last = numbered_for k p;
  longest = record { long = 0; place = p.place };
}

abbrev pub added : Kind → Tallied → Placed → Tallied
added k t p = record {
  count = suc t.count;
  earliest = earlier t.earliest p.date;
  latest = later t.latest p.date;
  first = t.first;
  last = numbered_for k p;
  longest = longer t.longest (step_to t.last (numbered_for k p));
}

unfoldable pub counted : Kind → Tallied → Placed → Tallied
counted k t p = cond (eqb t.count 0) (begun k p) (added k t p)

unfoldable pub tally : Kind → Tallied → List Placed → Tallied
tally k t [] = t
tally k t (p ∷ ps) = tally k (counted k t p) ps

-- ---- the line

abbrev pub tally_sum : Tallied → ℤ
tally_sum t = t.last.number -ℤ t.first

abbrev pub tally_steps : Tallied → List ℕ
tally_steps t = step_text t.longest (tally_sum t)

-- what stands between the count and the line's end, where the count is not 0
unfoldable pub tally_rest : Kind → Tallied → List ℕ
tally_rest k t =
    spaced (dotted k t.earliest) ++ spaced (dotted k t.latest) ++ cond (counts_days k) (tally_steps t) []

unfoldable pub tally_line : Kind → Tallied → List ℕ
tally_line k t = letter k ∷ spaced (decimal t.count) ++ cond (eqb t.count 0) [] (tally_rest k t) ++ line_end
