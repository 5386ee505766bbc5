-- The walk for a kind, from its first record to its last, has what the report tells: its line and its figures are the kind's. Assumes nothing.
use mathlib.Core.Path.{◌≡◌, refl, sym, ap, ◌∙◌}
use mathlib.Core.Bool.{Bool, true, false, cond}
use mathlib.Core.List.{List, [], ◌∷◌, ◌++◌, map, append_assoc}
use Prim.Native.Nat.{ℕ, suc, ◌+◌}
use native.Mathlib.Nat.{add-zero}
use native.Mathlib.Omega.{arith}
use borrow.Author.Tests.{ne_eqb}
use lib.Dec.{eqb}
use lib.IntN.{ℤ, pos, ◌-ℤ◌}
use lib.ListN.{length}
use Rattle.rules.specs.Kinds.{Kind, Fields}
use Rattle.rules.specs.Days.{day_number, counts_days}
use Rattle.rules.specs.Spelling.{decimal_in, decimal}
use Rattle.rules.specs.Listing.{letter, line_end}
use Rattle.requests.specs.Gaps.{Placed, dates, earliest, latest, Numbered, numbered, Step, longest, steps_sum, last_of}
use Rattle.requests.specs.GapReport.{spaced, step_text, kind_text, kind_line}
use Rattle.requests.proofs.OnEntries.KeepLaws.{either}
use Rattle.requests.proofs.OnGaps.StepLaws.{steps-sum, last-map, walked, walk-law}
use Rattle.gap_report.specs.Walk.{Tallied, number_for, numbered_for, nothing, added, counted, tally, tally_sum, tally_rest, tally_line}
use Rattle.gap_report.specs.Figures.{zeros, step_figures, kind_figures, tally_figures}

-- ---- the whole walk

-- from what was told so far, of one record or more
module _ (k : Kind) where
  abbrev told : ℕ → Fields → Fields → ℤ → Numbered → Step → Tallied
  told count e l first last step = record { count = count; earliest = e; latest = l; first = first; last = last; longest = step }

  one_more : (t : Tallied) (p : Placed) → eqb t.count 0 ≡ false → counted k t p ≡ added k t p
  unfolding counted
  one_more t p e = rw e

  tally-on-from : (n : ℕ) (e l : Fields) (first : ℤ) (a : Numbered) (s : Step) (ps : List Placed) →
      tally k (told (suc n) e l first a s) ps
      ≡ told (suc n + length ps) (earliest e (dates ps)) (latest l (dates ps)) first (last_of a (map (numbered_for k) ps)) (walked s a (map (numbered_for k) ps))
  unfolding tally earliest latest last_of walked
  tally-on-from n e l first a s [] = rw add-zero
  tally-on-from n e l first a s (p ∷ ps) =
      let more : suc n + suc (length ps) ≡ suc (suc n) + length ps = omega arith in
      ap (λ (t : Tallied). tally k t ps) (one_more (told (suc n) e l first a s) p (ne_eqb (suc n) 0 (λ z. omega arith)))
      ∙ tally-on-from (suc n) _ _ first _ _ ps ∙ rw more

  module _ (p : Placed) (ps : List Placed) where
    abbrev whole : Tallied
    whole =
        told (length (p ∷ ps)) (earliest p.date (dates ps)) (latest p.date (dates ps)) (number_for k p.date)
        (last_of (numbered_for k p) (map (numbered_for k) ps)) (longest (numbered_for k p) (map (numbered_for k) ps))

    tally-is : tally k nothing (p ∷ ps) ≡ whole
    unfolding tally counted
    tally-is =
        let more : suc (length ps) ≡ 1 + length ps = omega arith in
        tally-on-from 0 p.date p.date (number_for k p.date) (numbered_for k p) _ ps ∙ rw (walk-law (numbered_for k p) (map (numbered_for k) ps), more)

-- ---- the steps of a kind that counts days

numbers-are : (ps : List Placed) → map (λ (q : Numbered). q.number) (map numbered ps) ≡ map day_number (dates ps)
numbers-are [] = refl
numbers-are (p ∷ ps) = ap (λ (l : List ℤ). day_number p.date ∷ l) (numbers-are ps)

module _ (k : Kind) (p : Placed) (ps : List Placed) where
  module _ (c : counts_days k ≡ true) where
    number_is : numbered_for k ≡ numbered
    number_is = ap {B = Placed → Numbered} (λ (b : Bool) (q : Placed). record { place = q.place; number = cond b (day_number q.date) (pos 0) }) c

    longest-is : (whole k p ps).longest ≡ longest (numbered p) (map numbered ps)
    longest-is = ap (λ (num : Placed → Numbered). longest (num p) (map num ps)) number_is

    -- "the sum of all signed steps" is the last record's number less the first's
    sum_is : tally_sum (whole k p ps) ≡ steps_sum p.date (dates ps)
    sum_is =
        let first = day_number p.date in
        ap (λ (num : Placed → Numbered). (last_of (num p) (map num ps)).number -ℤ (num p).number) number_is
        ∙ ap (λ (last : ℤ). last -ℤ first) (sym (last-map (λ (q : Numbered). q.number) (numbered p) (map numbered ps)) ∙ ap (last_of first) (numbers-are ps))
        ∙ sym (steps-sum first (map day_number (dates ps)))

  -- what is told of the longest step and the sum, or nothing of a kind that counts no days
  by-steps : {A : Type 0} (tell : Step → ℤ → List A) (none : List A) →
      cond (counts_days k) (tell (whole k p ps).longest (tally_sum (whole k p ps))) none
      ≡ cond (counts_days k) (tell (longest (numbered p) (map numbered ps)) (steps_sum p.date (dates ps))) none
  by-steps {A} tell none = either (counts_days k) (λ c. ap (λ (l : List A). cond (counts_days k) l none) (same c)) (λ c. other c _ ∙ sym (other c _))
    where
      same : counts_days k ≡ true → tell (whole k p ps).longest (tally_sum (whole k p ps)) ≡ tell (longest (numbered p) (map numbered ps)) (steps_sum p.date (dates ps))
      same c = rw (longest-is c, sum_is c)

      other : counts_days k ≡ false → (l : List A) → cond (counts_days k) l none ≡ none
      other c l = rw c

-- ---- the line and the figures

-- four texts one after the other
parts : (a e l s : List ℕ) → a ++ (e ++ l ++ s) ≡ a ++ e ++ l ++ s
parts a e l s = sym (append_assoc a (e ++ l) s) ∙ ap (λ (x : List ℕ). x ++ s) (sym (append_assoc a e l))

module _ (k : Kind) where
  some-line : (p : Placed) (ps : List Placed) → tally_line k (whole k p ps) ≡ kind_line k (p ∷ ps)
  unfolding tally_line tally_rest kind_line kind_text
  some-line p ps = rw (ne_eqb (length (p ∷ ps)) 0 (λ z. omega arith), by-steps k p ps step_text []) (ap (λ (x : List ℕ). x ++ line_end) (parts (letter k ∷ spaced (decimal (length (p ∷ ps)))) _ _ _))

  pub line-is : (ps : List Placed) → tally_line k (tally k nothing ps) ≡ kind_line k ps
  unfolding tally_line tally kind_line kind_text decimal decimal_in
  line-is [] = refl
  line-is (p ∷ ps) = ap (tally_line k) (tally-is k p ps) ∙ some-line p ps

  some-figures : (p : Placed) (ps : List Placed) → tally_figures k (whole k p ps) ≡ kind_figures k (p ∷ ps)
  unfolding tally_figures kind_figures
  some-figures p ps = rw (ne_eqb (length (p ∷ ps)) 0 (λ z. omega arith), by-steps k p ps step_figures (zeros 3))

  pub figures-are : (ps : List Placed) → tally_figures k (tally k nothing ps) ≡ kind_figures k ps
  unfolding tally_figures tally kind_figures
  figures-are [] = refl
  figures-are (p ∷ ps) = ap (tally_figures k) (tally-is k p ps) ∙ some-figures p ps
