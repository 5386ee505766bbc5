-- Demand 3, on whole answers: adding the difference, adding twice, landing on a number that no date has, and the difference's sign.
-- One statement each over D, E and V. Assumes nothing.
use mathlib.Core.Path.{◌≡◌, refl, ◌∙◌, sym, ap, subst}
use mathlib.Core.Bool.{Bool, true, false, cond, ◌&&◌}
use Prim.Native.Nat.{ℕ, zero, suc, ◌+◌, ◌-◌, ◌*◌, ◌/◌, ◌%◌, ◌≤◌, ◌<◌}
use native.Mathlib.Omega.{arith}
use borrow.Author.Tests.{eqb-true}
use lib.Dec.{T}
use lib.IntN.{ℤ, pos, negsuc, neg_ℤ, nat_abs, ◌+ℤ◌, ◌-ℤ◌, +ℤ_assoc}
use lib.Signed.{lt_z, le_z, quot_z, rem_z}
use Rattle.sign.specs.Halves.{up, dn}
use Rattle.sign.proofs.Laws.{same, ints, one_side, le-true, yes_le, no_le}
use Rattle.rules.specs.Words.{minus, within_z}
use Rattle.rules.specs.Refusals.{Answer, Gives, Refused, RefusedAt, ◌then◌, demand, given, not_of_kind}
use Rattle.rules.specs.Kinds.{Kind, kR, kD, kH, kU, kE, kV, Fields, with_hour, hour_fits, fits_kind, of_kind}
use Rattle.rules.specs.Numbers.{on_day}
use Rattle.rules.specs.Days.{day_number, counts_days, difference, day_fields, summed, summed_hour, add_days, start_of_day}
use Rattle.rules.proofs.OnKinds.KindLaws.{Fit, fit, left, right}
use Rattle.rules.proofs.OnDays.CountLaws.{add-gap, sum-gives}
use Rattle.rules.proofs.OnDays.DayLaws.{counter, summed-in, summed-only, date-back, is-date, no_date, number-of-date}

-- ---- adding the difference

-- adding the difference of two dates to the first gives the second: with hour 0 for D and E, with the first's hour for V
pub add-difference : (k : Kind) → counts_days k ≡ true → (f g : Fields) → of_kind k g ≡ true →
    (difference k f g then add_days k f) ≡ Gives (with_hour g (summed_hour k f.hour))
unfolding difference add_days
add-difference k c f g p = rw (c, c, add-gap (day_number f) (day_number g)) (date-back k c g p (summed_hour k f.hour))

-- so for D it is the second itself, and for E the second's start of day
pub add-difference-D : (f g : Fields) → of_kind kD g ≡ true → (difference kD f g then add_days kD f) ≡ Gives g
add-difference-D f g p =
    let e = eqb-true g.hour 0 (fit kD g p).hour-fits in
    add-difference kD refl f g p ∙ (λ i. Gives (with_hour g (sym e i)))

pub add-difference-E : (f g : Fields) → of_kind kE g ≡ true → (difference kE f g then add_days kE f) ≡ start_of_day kE g
unfolding start_of_day
add-difference-E f g p = add-difference kE refl f g p

-- "E and V differences ignore hours"
pub difference-ignores-hours : (k : Kind) (f g : Fields) (h i : ℕ) → difference k (with_hour f h) (with_hour g i) ≡ difference k f g
unfolding difference day_number
difference-ignores-hours k f g h i = refl

-- ---- adding twice

-- the hour of a sum is that of its sum
hour-kept : (k : Kind) (h : ℕ) → summed_hour k (summed_hour k h) ≡ summed_hour k h
hour-kept kR h = refl
hour-kept kD h = refl
hour-kept kH h = refl
hour-kept kU h = refl
hour-kept kE h = refl
hour-kept kV h = refl

hour-still-fits : (k : Kind) → counts_days k ≡ true → (h : ℕ) → hour_fits k h ≡ true → hour_fits k (summed_hour k h) ≡ true
hour-still-fits kR c h e = absurd (subst T (sym c) tt)
hour-still-fits kD c h e = refl
hour-still-fits kH c h e = absurd (subst T (sym c) tt)
hour-still-fits kU c h e = absurd (subst T (sym c) tt)
hour-still-fits kE c h e = refl
hour-still-fits kV c h e = e

-- adding a and then b gives the date or refusal of adding a + b, if the first is not refused and does not land on -364 to -1
pub add_twice : (k : Kind) → counts_days k ≡ true → (f : Fields) (a b : ℤ) → given (add_days k f a) ≡ true → no_date (day_number f +ℤ a) ≡ false →
    (add_days k f a then λ g. add_days k g b) ≡ add_days k f (a +ℤ b)
unfolding add_days day_fields
add_twice k c f a b e l =
    let n = day_number f +ℤ a in
    let h = summed_hour k f.hour in
    let r = summed-only n h (rw c at e) in
    rw (c, summed-in n h r.0 r.1, number-of-date n h l, hour-kept k f.hour, +ℤ_assoc (day_number f) a b)

-- a sum is a date of its kind
pub sum-is-date : (k : Kind) → counts_days k ≡ true → (f g : Fields) (a : ℤ) → of_kind k f ≡ true → add_days k f a ≡ Gives g → of_kind k g ≡ true
unfolding add_days summed
sum-is-date k c f g a p e =
    let n = day_number f +ℤ a in
    let h = summed_hour k f.hour in
    let s = sum-gives 11960684 11960319 (omega arith) (omega arith) (λ m. day_fields m h) n g (rw c at e) in
    subst (λ x. of_kind k x ≡ true) s.1
    (is-date k (counter k c) n h (yes_le (minus 11960684) n (omega (arith, s.0.0))) (yes_le n (pos 11960319) (omega (arith, s.0.1)))
    (hour-still-fits k c f.hour (fit k f p).hour-fits))

-- ---- landing on a number that no date has

-- such a landing gives the year-0 date of the opposite number
pub landing : (k : Kind) → counts_days k ≡ true → (f : Fields) (a : ℤ) → no_date (day_number f +ℤ a) ≡ true →
    let date = day_fields (neg_ℤ (day_number f +ℤ a)) (summed_hour k f.hour) in
    (add_days k f a ≡ Gives date) × (date.year ≡ pos 0) × (day_number date ≡ neg_ℤ (day_number f +ℤ a))
unfolding add_days day_fields
landing k c f a e = land (day_number f +ℤ a) e
  where
    land : (n : ℤ) → no_date n ≡ true →
        (demand (counts_days k) not_of_kind (summed n (summed_hour k f.hour)) ≡ Gives (day_fields (neg_ℤ n) (summed_hour k f.hour)))
        × ((day_fields (neg_ℤ n) (summed_hour k f.hour)).year ≡ pos 0)
        × (day_number (day_fields (neg_ℤ n) (summed_hour k f.hour)) ≡ neg_ℤ n)
    land n e =
        let h = summed_hour k f.hour in
        let l = le-true (minus 364) n (left (le_z (minus 364) n) (le_z n (minus 1)) e) in
        let u = le-true n (minus 1) (right (le_z (minus 364) n) (le_z n (minus 1)) e) in
        let o = one_side n in
        let year : quot_z (neg_ℤ n) (pos 365) ≡ pos 0 = same _ _ (simp ints (omega arith)) in
        let year' : quot_z n (pos 365) ≡ quot_z (neg_ℤ n) (pos 365) = same _ _ (simp ints (omega arith)) in
        let day : nat_abs (rem_z n (pos 365)) ≡ nat_abs (rem_z (neg_ℤ n) (pos 365)) = simp ints (omega arith) in
        let none : no_date (neg_ℤ n) ≡ false = rw (yes_le (minus 364) (neg_ℤ n) (simp ints (omega arith))) (no_le (neg_ℤ n) (minus 1) (simp ints (omega arith))) in (
          rw (c, summed-in n h (yes_le (minus 11960684) n (omega arith)) (yes_le n (pos 11960319) (omega arith)))
              (λ i. Gives (on_day (year' i) (day i) h)),
          year,
          number-of-date (neg_ℤ n) h none,
        )
