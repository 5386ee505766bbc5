-- #108 of document 02, the six kinds' figures as numbers: count, earliest, latest, step, place, sum. Assumes nothing.
use Rattle.std.specs.Prelude.{ℕ, cond, List, [], ◌∷◌, ◌++◌, map, leb, eqb, ℤ, pos, length, drop, replicate}
use Rattle.rules.specs.Refusals.{Answer, Gives, Refused, RefusedAt, ◌then◌, demand, buffer_short}
use Rattle.rules.specs.Kinds.{Kind, Fields, stored}
use Rattle.rules.specs.Days.{counts_days}
use Rattle.rules.specs.Book.{Format, records}
use Rattle.requests.specs.Second.{FieldEntry}
use Rattle.requests.specs.Both.{both}
use Rattle.requests.specs.Gaps.{Placed, dates, earliest, latest, numbered, Step, longest, steps_sum}
use Rattle.requests.specs.GapReport.{of_each_kind}
use Rattle.codes.specs.Views.{date_number}
use Rattle.gap_report.specs.Walk.{Tallied, tally_sum}

-- ---- of a kind

-- a date as one number, without a mark
abbrev pub date_figure : Fields → ℤ
date_figure f = pos (date_number (stored f))

abbrev pub zeros : ℕ → List ℤ
zeros n = replicate n (pos 0)

-- "step, place, sum"
abbrev pub step_figures : Step → ℤ → List ℤ
step_figures step sum = pos step.long ∷ pos step.place ∷ sum ∷ []

-- a kind with no record has six times 0, and one that counts no days has no steps
unfoldable pub kind_figures : Kind → List Placed → List ℤ
kind_figures k [] = zeros 6
kind_figures k (p ∷ ps) =
    pos (length (p ∷ ps)) ∷ date_figure (earliest p.date (dates ps)) ∷ date_figure (latest p.date (dates ps))
    ∷ cond (counts_days k) (step_figures (longest (numbered p) (map numbered ps)) (steps_sum p.date (dates ps))) (zeros 3)

-- ---- of a book

-- one list after the other
unfoldable pub together : {A : Type 0} → List (List A) → List A
together [] = []
together (l ∷ ls) = l ++ together ls

-- of each kind, in the order of the codes
unfoldable pub figures_of : Format FieldEntry → List (List ℕ) → List ℤ
figures_of format rs = together (of_each_kind kind_figures format rs)

-- "Refusals: 9, 10, 11 as for the book"
unfoldable pub figures : List ℕ → Answer (List ℤ)
figures s = records (both s) s then λ rs. Gives (figures_of (both s) rs)

-- how many there are: six numbers for each of six kinds
abbrev pub figure_count : ℕ
figure_count = 36

-- ---- in lent numbers

-- how many were written, or 7 where fewer are lent than there are
unfoldable pub figures_answer : Answer (List ℤ) → List ℤ → Answer ℕ
figures_answer a out = a then λ ns. demand (leb (length ns) (length out)) buffer_short (Gives (length ns))

-- they fill the first ones, later ones stay; where they are refused, nothing is written
unfoldable pub figures_over : Answer (List ℤ) → List ℤ → List ℤ
figures_over (Gives ns) out = cond (leb (length ns) (length out)) (ns ++ drop (length ns) out) out
figures_over (Refused n) out = out
figures_over (RefusedAt n place) out = out

-- ---- from a walk

abbrev pub tally_some : Kind → Tallied → List ℤ
tally_some k t =
    pos t.count ∷ date_figure t.earliest ∷ date_figure t.latest ∷ cond (counts_days k) (step_figures t.longest (tally_sum t)) (zeros 3)

unfoldable pub tally_figures : Kind → Tallied → List ℤ
tally_figures k t = cond (eqb t.count 0) (zeros 6) (tally_some k t)
