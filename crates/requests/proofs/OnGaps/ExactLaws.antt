-- "Numbers are exact in 64 bits": the day numbers of dates are bounded, so the longest step and the sum of all signed steps are. And the
-- longest step has what each step has, the last of some records what each has. Assumes nothing.
use mathlib.Core.Path.{◌≡◌, ap}
use mathlib.Core.Bool.{true}
use mathlib.Core.List.{List, [], ◌∷◌, map}
use Prim.Native.Nat.{ℕ, ◌≤◌}
use native.Mathlib.Omega.{arith}
use lib.Dec.{leb}
use lib.IntN.{ℤ, pos, nat_abs, ◌-ℤ◌}
use Rattle.sign.specs.Halves.{up, dn}
use Rattle.sign.proofs.Laws.{ints, one_side, le-true, abs_is}
use Rattle.rules.specs.Words.{minus}
use Rattle.rules.specs.Refusals.{given}
use Rattle.rules.specs.Kinds.{Kind, Fields, of_kind}
use Rattle.rules.specs.Days.{day_number, counts_days}
use Rattle.rules.proofs.OnDays.DayLaws.{date-back, summed-only}
use Rattle.requests.specs.Gaps.{Placed, dates, Numbered, numbered, Step, step_to, longer, longest, steps_sum, last_of}
use Rattle.requests.proofs.OnEntries.KeepLaws.{either}
use Rattle.requests.proofs.OnEntries.EachLaws.{Each}
use Rattle.requests.proofs.OnMoves.PassLaws.{each-changed}
use Rattle.requests.proofs.OnGaps.StepLaws.{no_step, steps-sum}
use Rattle.requests.proofs.OnGaps.RecordLaws.{OfKind}

-- ---- day numbers

-- days from the least day number that a date has, -11,960,684, to the greatest, 11,960,319
abbrev pub farthest : ℕ
farthest = 23921003

-- a day number between them
abbrev pub Near : ℤ → Type 0
Near z = (up z ≤ 11960319) × (dn z ≤ 11960684)

pub number-near : (k : Kind) → counts_days k ≡ true → (f : Fields) → of_kind k f ≡ true → Near (day_number f)
number-near k c f p =
    let n = day_number f in
    let r = summed-only n 0 (ap given (date-back k c f p 0)) in
    let l = le-true (minus 11960684) n r.0 in
    let u = le-true n (pos 11960319) r.1 in
    let o = one_side n in
    omega arith

pub near_step : (a b : ℤ) → Near a → Near b → nat_abs (b -ℤ a) ≤ farthest
near_step a b m n = let o = one_side a in let q = one_side b in simp ints (omega arith)

-- ---- what each record has, or each step

-- the last of some has what each has
last_has : {A : Type 0} (P : A → Type 0) (x : A) (xs : List A) → P x → Each P xs → P (last_of x xs)
unfolding last_of
last_has P x [] p h = p
last_has P x (y ∷ ys) p h = last_has P y ys h.0 h.1

-- what no step has, and each step from one record to the next, the longest has
module _
    (Q : Numbered → Type 0)
    (P : Step → Type 0)
    (none : (a : Numbered) → Q a → P (no_step a))
    (step : (a b : Numbered) → Q a → Q b → P (step_to a b))
  where
    pub longest-has : (a : Numbered) (bs : List Numbered) → Q a → Each Q bs → P (longest a bs)
    unfolding longest longer
    longest-has a [] q h = none a q
    longest-has a (b ∷ bs) q h =
        let rest = longest-has b bs h.0 h.1 in
        either (leb (longest b bs).long (step_to a b).long) (λ e. rw e (step a b q h.0)) (λ e. rw e rest)

-- ---- of records of a kind that counts days

pub dates-each : (k : Kind) (ps : List Placed) → OfKind k ps → Each (λ f. of_kind k f ≡ true) (dates ps)
dates-each k ps h = each-changed (λ p. of_kind k p.date ≡ true) (λ p. p.date) (λ f. of_kind k f ≡ true) (λ p g. g) ps h

-- neither the longest step nor the sum, in either sign, goes farther than two dates can lie apart
pub record Exact (p : Placed) (ps : List Placed) : Type 0 where
  pub step : (longest (numbered p) (map numbered ps)).long ≤ farthest
  pub sum-up : up (steps_sum p.date (dates ps)) ≤ farthest
  pub sum-down : dn (steps_sum p.date (dates ps)) ≤ farthest

module _ (k : Kind) (c : counts_days k ≡ true) (p : Placed) (ps : List Placed) (h : OfKind k (p ∷ ps)) where
  pub step-most : (longest (numbered p) (map numbered ps)).long ≤ farthest
  step-most =
      longest-has (λ q. Near q.number) (λ t. t.long ≤ farthest) (λ a q. omega arith) (λ a b x y. near_step a.number b.number x y)
      (numbered p) (map numbered ps) (number-near k c p.date h.0)
      (each-changed (λ q. of_kind k q.date ≡ true) numbered (λ q. Near q.number) (λ q g. number-near k c q.date g) ps h.1)

  pub sum-most : nat_abs (steps_sum p.date (dates ps)) ≤ farthest
  sum-most =
      let a = day_number p.date in
      let bs = map day_number (dates ps) in
      let first = number-near k c p.date h.0 in
      let others = each-changed (λ f. of_kind k f ≡ true) day_number Near (λ f g. number-near k c f g) (dates ps) (dates-each k ps h.1) in
      rw (steps-sum a bs) (near_step a (last_of a bs) first (last_has Near a bs first others))

  pub steps-exact : Exact p ps
  steps-exact =
      let a = abs_is (steps_sum p.date (dates ps)) in let s = sum-most in
      record { step = step-most; sum-up = omega arith; sum-down = omega arith }
